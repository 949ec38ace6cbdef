-- `capi::fragments::are_sized` meets its contract. By the definition. Assumes nothing.
use mathlib.Core.Path.{refl}
use Rattle.capi.specs.Fragments.{sized_state}
use Rattle.capi.proofs.fragments.are_sized.Goals as goal

pub returns : goal.returns
unfolding sized_state
returns c = refl
