-- `chain::steps::rotation11` meets its contract. Assumes nothing.
use mathlib.Core.Path.{◌≡◌, refl, ◌∙◌, ap}
use Prim.Native.Nat.{◌*◌, ◌≤◌}
use native.Mathlib.Omega.{arith}
use lib.IntN.{ℤ, pos, nat_abs, ◌*ℤ◌}
use mir.Syntax.{w64}
use mir.Val.{SFits}
use Rattle.rounding.proofs.Zn.{mul-le}
use Rattle.rounding.proofs.Machine.{rd, fits, rd*, fit*}
use lib.Dec.{lit<}
use Rattle.rounding.specs.Nearest.{to_even}
use Rattle.rounding.specs.Quotient.{mixed}
use Rattle.chain.specs.Parts.{rotation11}
use Rattle.chain.proofs.Rounding.{step-alone}
use Rattle.chain.proofs.steps.rotation11.Tie as tie
use Rattle.chain.proofs.steps.rotation11.Lts as lts
use Rattle.chain.proofs.steps.rotation11.Reads as reads
use Rattle.chain.proofs.steps.rotation11.Goals as goal

abbrev TheStart : Type 0
TheStart = lts.Start tie.the-claims reads.Pre reads.Post

product : (s : TheStart) → nat_abs (s.args.r *ℤ pos 484813681110) ≤ 1000000 * 484813681110
product s = mul-le s.args.r (pos 484813681110) 1000000 484813681110 s.requires (omega arith)

f : (s : TheStart) → SFits w64 (s.args.r *ℤ pos 484813681110)
f s = fits (1000000 * 484813681110) (product s) (lit< tt)

unit : pos 484813681110 ≡ pos 484813681110
unit = refl

pub overflow_mul-r : goal.overflow_mul-r
overflow_mul-r c = fit* (rd c.ranges.r) unit (f c)

pub over11-requires : goal.over11-requires
over11-requires c = (omega arith, rw (rd* (rd c.ranges.r) unit (f c)) (omega (arith, product c)))

pub returns : goal.returns
unfolding rotation11
returns c =
    let s = c.before in
    rd (record { sfits = c.over11.type_inv }) ∙ c.over11.ensures
    ∙ ap (λ (n : ℤ). mixed to_even (pos 0) n (pos 100000000000)) (rd* (rd s.ranges.r) unit (f s))
    ∙ step-alone 100000000000 (s.args.r *ℤ pos 484813681110)
