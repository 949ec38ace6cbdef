-- `listing::room_for` meets its contract. Assumes nothing.
use native.Mathlib.Omega.{arith}
use Rattle.listing.specs.Fold.{room_for}
use Rattle.listing.proofs.room_for.Goals as goal

pub returns : goal.returns
unfolding room_for
returns c = omega (arith, c.min.ensures)
