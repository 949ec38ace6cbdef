-- `listing::short_output_space` meets its contract. Assumes nothing.
use mathlib.Core.Path.{refl}
use Rattle.listing.specs.Fold.{room_for, cleared}
use Rattle.listing.proofs.short_output_space.Goals as goal

pub returns : goal.returns
unfolding cleared room_for
returns c = refl
