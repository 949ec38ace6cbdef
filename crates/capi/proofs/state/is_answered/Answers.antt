-- `capi::state::is_answered` meets its contract. Assumes nothing.
use mathlib.Core.Path.{◌∙◌, ap, ap₂}
use mathlib.Core.Bool.{Bool, not, ◌&&◌}
use Prim.Native.Nat.{ℕ, ◌+◌}
use native.Mathlib.Omega.{arith}
use Rattle.rounding.proofs.Machine.{told}
use Rattle.chain.specs.Numbers.{number}
use Rattle.capi.specs.Fragments.{flag}
use Rattle.capi.proofs.Streams.{sound-in, chain-read}
use Rattle.capi.proofs.state.is_answered.Goals as goal

pub overflow_add-line : goal.overflow_add-line
overflow_add-line c = omega (arith, c.lines_in.ensures.1)

pub slice_bounds-is_sound_at-count : goal.slice_bounds-is_sound_at-count
slice_bounds-is_sound_at-count c = omega (arith, c.steps_end-end.ensures.0)

pub returns : goal.returns
returns c =
    let n = c.args.n.now in
    ap₂ (λ (a b : Bool). not a && b)
    (c.flag-finished.ensures ∙ ap flag (told {z = number n 4} c.flag-arg-1.given))
    (sound-in n c.is_sound_at.ensures (ap (λ (k : ℕ). k + 1) c.lines_in.ensures.0)
    (chain-read n (told {z = number n 5} c.profile-1.given) c.steps_end-end.ensures.0))
