-- The cases of the orders that go by what a line is read as, by computation. Assumes nothing.
use mathlib.Core.Path.{refl}
use Rattle.chain.specs.Case.{answer}
use Rattle.theorems.specs.LineOrders.{LineOrders}

pub line-orders : LineOrders
unfolding answer
line-orders = record { steps = refl; points = refl; editions = refl; origins = refl; positions = refl; pairs = refl }
