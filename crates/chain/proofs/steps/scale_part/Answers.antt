-- `chain::steps::scale_part` meets its contract: the numerator is at most 1.971·10^18 + 1,202,000 · 650,000,000,000. Assumes nothing.
use mathlib.Core.Path.{◌∙◌, ap}
use Prim.Native.Nat.{◌+◌, ◌*◌, ◌≤◌}
use lib.IntN.{ℤ, pos, nat_abs, ◌+ℤ◌, ◌*ℤ◌}
use mir.Syntax.{w64}
use mir.Val.{SFits}
use native.Mathlib.Omega.{arith}
use Rattle.rounding.proofs.Zn.{mul-le, add-le}
use Rattle.rounding.proofs.Machine.{rd, fits, rd+, rd*, fit+, fit*}
use lib.Dec.{lit<}
use Rattle.rounding.specs.Nearest.{to_even}
use Rattle.rounding.specs.Quotient.{mixed}
use Rattle.chain.proofs.Rounding.{step-alone}
use Rattle.chain.proofs.steps.scale_part.Tie as tie
use Rattle.chain.proofs.steps.scale_part.Lts as lts
use Rattle.chain.proofs.steps.scale_part.Reads as reads
use Rattle.chain.proofs.steps.scale_part.Goals as goal

abbrev TheStart : Type 0
TheStart = lts.Start tie.the-claims reads.Pre reads.Post

module _ (s : TheStart) where
  product : nat_abs (s.args.slope *ℤ s.args.z) ≤ 1202000 * 650000000000
  product = mul-le s.args.slope s.args.z 1202000 650000000000 s.requires.1 s.requires.2

  most : nat_abs (s.args.k +ℤ s.args.slope *ℤ s.args.z) ≤ 8000000000000000000
  most = omega (arith, add-le s.args.k (s.args.slope *ℤ s.args.z) _ _ s.requires.0 product)

  f : SFits w64 (s.args.slope *ℤ s.args.z)
  f = fits (1202000 * 650000000000) product (lit< tt)

  g : SFits w64 (s.args.k +ℤ s.args.slope *ℤ s.args.z)
  g = fits (1971000000000000000 + 1202000 * 650000000000) (add-le s.args.k (s.args.slope *ℤ s.args.z) _ _ s.requires.0 product) (lit< tt)

pub overflow_mul-slope : goal.overflow_mul-slope
overflow_mul-slope c = fit* (rd c.ranges.slope) (rd c.ranges.z) (f c)

pub overflow_add-k : goal.overflow_add-k
overflow_add-k c = fit+ (rd c.ranges.k) (rd* (rd c.ranges.slope) (rd c.ranges.z) (f c)) (g c)

pub over14-requires : goal.over14-requires
over14-requires c = rw (rd+ (rd c.ranges.k) (rd* (rd c.ranges.slope) (rd c.ranges.z) (f c)) (g c)) (most c)

pub returns : goal.returns
returns c =
    let s = c.before in
    rd (record { sfits = c.over14.type_inv }) ∙ c.over14.ensures
    ∙ ap (λ (n : ℤ). mixed to_even (pos 0) n (pos 100000000000000)) (rd+ (rd s.ranges.k) (rd* (rd s.ranges.slope) (rd s.ranges.z) (f s)) (g s))
    ∙ step-alone 100000000000000 (s.args.k +ℤ s.args.slope *ℤ s.args.z)
