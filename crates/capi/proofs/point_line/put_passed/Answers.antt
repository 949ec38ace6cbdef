-- `capi::point_line::put_passed` meets its contract: the seven numbers, one by one. Assumes nothing.
use mathlib.Core.Path.{◌∙◌, ap}
use mathlib.Core.Bool.{Bool, ◌||◌}
use mathlib.Core.List.{[]}
use Prim.Native.Nat.{ℕ, ◌+◌}
use native.Mathlib.Omega.{arith}
use lib.IntN.{pos}
use mir.Syntax.{w64}
use mir.ValLaws.{to_z_pos}
use Rattle.rounding.proofs.Machine.{told}
use Rattle.chain.specs.Numbers.{number}
use Rattle.capi.specs.Fragments.{flag, bit}
use Rattle.capi.proofs.PointCalls.{passed-head}
use Rattle.capi.proofs.point_line.put_passed.Goals as goal

pub returns : goal.returns
returns c =
    let bits = c in
    let s = bits in
    let n = s.args.n.now in
    let l = bits in
    c.copy.ensures
    ∙ passed-head n [] s.requires.0 s.requires.1 s.requires.2 s.args.closes
    (to_z_pos w64 _ (omega (arith, l.lines_in.ensures.1)) ∙ ap (λ (k : ℕ). pos (k + 1)) l.lines_in.ensures.0) (told {z = number n 2} c.head-1.given)
    (told bits.bit-closed.type_inv ∙ bits.bit-closed.ensures ∙ ap (λ (b : Bool). bit (b || s.args.closes))
    (bits.flag.ensures ∙ ap flag (told {z = number n 3} bits.flag-arg-1.given)))
    (told {z = number n 4} c.head-2-1.given) (told {z = number n 5} c.head-3-1.given) (told {z = number n 6} c.head-4-1.given)
