-- The cases of the orders, by computation. Assumes nothing.
use mathlib.Core.Path.{refl}
use Rattle.angle.specs.Worked.{open_angles}
use Rattle.theorems.specs.Orders.{Orders}

pub orders : Orders
unfolding open_angles
orders = record { rounding = refl; cartesian = refl; position = refl; cassini = refl }
