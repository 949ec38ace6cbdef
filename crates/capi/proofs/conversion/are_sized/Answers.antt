-- `capi::conversion::are_sized` meets its contract. Assumes nothing.
use mathlib.Core.Path.{refl}
use Rattle.capi.specs.Chains.{whole_steps}
use Rattle.capi.proofs.conversion.are_sized.Goals as goal

pub returns : goal.returns
unfolding whole_steps
returns c = refl
