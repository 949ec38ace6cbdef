-- `capi::state::put_numbers` meets its contract. Assumes nothing.
use mathlib.Core.Path.{◌∙◌, ap₂}
use mathlib.Core.List.{List}
use lib.IntN.{ℤ}
use lib.Seq.{sets}
use Rattle.capi.specs.Fragments.{numbers_with}
use Rattle.capi.proofs.state.put_numbers.Goals as goal

pub returns : goal.returns
unfolding numbers_with
returns c = c.copy.ensures ∙ ap₂ (λ (l h : List ℤ). sets l 0 h) c.put_new_step.ensures c.head_of.ensures
