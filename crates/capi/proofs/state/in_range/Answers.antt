-- `capi::state::in_range` meets its contract: each number is read where it stands. Assumes nothing.
use mathlib.Core.Path.{◌∙◌, ap, ap₂}
use mathlib.Core.Bool.{◌&&◌}
use lib.IntN.{ℤ, pos}
use Rattle.rounding.proofs.Machine.{told}
use Rattle.ranges.specs.Ranges.{within}
use Rattle.capi.specs.Fragments.{is_flag, state_range}
use Rattle.capi.proofs.state.in_range.Goals as goal

pub returns : goal.returns
unfolding state_range
returns c =
    ap₂ ◌&&◌
    (ap₂ ◌&&◌
    (ap₂ ◌&&◌ (c.within.ensures ∙ ap (λ (z : ℤ). within (pos 0) z (pos 1000000)) (told c.within-arg-1.given))
    (c.within-2.ensures ∙ ap (λ (z : ℤ). within (pos 0) z (pos 200)) (told c.within-arg-2-1.given)))
    (c.within-3.ensures ∙ ap (λ (z : ℤ). within (pos 0) z (pos 8)) (told c.within-arg-3-1.given)))
    (ap₂ ◌&&◌
    (ap₂ ◌&&◌ (c.is_flag.ensures ∙ ap is_flag (told c.is_flag-arg-1.given)) (c.is_flag-2.ensures ∙ ap is_flag (told c.is_flag-arg-2-1.given)))
    (c.is_flag-3.ensures ∙ ap is_flag (told c.is_flag-arg-3-1.given)))
