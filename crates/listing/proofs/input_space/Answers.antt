-- `listing::input_space` meets its contract. Assumes nothing.
use mathlib.Core.Path.{refl}
use Rattle.listing.specs.Fold.{room_for, cleared}
use Rattle.listing.proofs.input_space.Goals as goal

pub returns : goal.returns
unfolding cleared room_for
returns c = refl
