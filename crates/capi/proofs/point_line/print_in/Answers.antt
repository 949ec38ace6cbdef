-- `capi::point_line::print_in` meets its contract. Assumes nothing.
use mathlib.Core.Path.{◌∙◌, ap}
use Prim.Native.Nat.{ℕ, ◌+◌}
use native.Mathlib.Omega.{arith}
use Rattle.rounding.proofs.Machine.{told}
use Rattle.chain.specs.Numbers.{number}
use Rattle.sheet_rules.proofs.Points.{printed-size}
use Rattle.capi.specs.Fragments.{flag}
use Rattle.capi.proofs.Streams.{chain-read}
use Rattle.capi.proofs.PointCalls.{asked-so}
use Rattle.capi.proofs.point_line.print_in.Goals as goal

pub overflow_add-line : goal.overflow_add-line
overflow_add-line c = omega (arith, c.lines_in.ensures.1)

pub slice_bounds-print_lent-count : goal.slice_bounds-print_lent-count
slice_bounds-print_lent-count c = omega (arith, c.steps_end-end.ensures.0)

pub shape_of-out : goal.shape_of-out
shape_of-out c = printed-size c.print_lent.ensures

pub returns : goal.returns
returns c =
    let f = c in
    let l = f in
    let s = l.args in
    let n = s.n.now in
    asked-so s.text.now c.print_lent.ensures (chain-read n (told {z = number n 5} c.profile-1.given) c.steps_end-end.ensures.0)
    (ap (λ (k : ℕ). k + 1) l.lines_in.ensures.0)
    (f.flag-refused.ensures ∙ ap flag (told {z = number n 2} f.flag-arg-1.given))
