-- `capi::joining::are_sized` meets its contract. Assumes nothing.
use mathlib.Core.Path.{refl}
use Rattle.capi.specs.Joining.{room_for_eight}
use Rattle.capi.proofs.joining.are_sized.Goals as goal

pub returns : goal.returns
unfolding room_for_eight
returns c = refl
