-- `chain::steps::scaled_rotation` meets its contract. Assumes nothing.
use mathlib.Core.Path.{◌≡◌, refl, ◌∙◌, ap}
use Prim.Native.Nat.{◌*◌, ◌≤◌}
use native.Mathlib.Omega.{arith}
use lib.IntN.{ℤ, pos, nat_abs, ◌+ℤ◌, ◌*ℤ◌}
use lib.Dec.{lit<}
use mir.Syntax.{w64}
use mir.Val.{SFits, to_z, of_z}
use Rattle.rounding.proofs.Zn.{mul-le, add-le}
use Rattle.rounding.proofs.Machine.{rd, fits, rd+, fit+, rd*, fit*}
use Rattle.rounding.specs.Nearest.{to_even}
use Rattle.rounding.specs.Quotient.{mixed}
use Rattle.chain.specs.Parts.{scaled_rotation}
use Rattle.chain.proofs.Rounding.{step-alone}
use Rattle.chain.proofs.steps.scaled_rotation.Tie as tie
use Rattle.chain.proofs.steps.scaled_rotation.Lts as lts
use Rattle.chain.proofs.steps.scaled_rotation.Reads as reads
use Rattle.chain.proofs.steps.scaled_rotation.Goals as goal

abbrev TheStart : Type 0
TheStart = lts.Start tie.the-claims reads.Pre reads.Post

ten11 : pos 100000000000 ≡ pos 100000000000
ten11 = refl

-- 10^11 + s fits, and so does the product
module _ (s : TheStart) where
  size : nat_abs (pos 100000000000 +ℤ s.args.s) ≤ 100002000000
  size = add-le (pos 100000000000) s.args.s 100000000000 2000000 (omega arith) s.requires.1

  sum : SFits w64 (pos 100000000000 +ℤ s.args.s)
  sum = fits 100002000000 size (lit< tt)

  most : nat_abs (s.args.r *ℤ (pos 100000000000 +ℤ s.args.s)) ≤ 4848137 * 100002000000
  most = mul-le s.args.r (pos 100000000000 +ℤ s.args.s) 4848137 100002000000 s.requires.0 size

  product : SFits w64 (s.args.r *ℤ (pos 100000000000 +ℤ s.args.s))
  product = fits (4848137 * 100002000000) most (lit< tt)

  -- the factor as the machine has it
  factor : to_z w64 (of_z w64 (pos 100000000000 +ℤ to_z w64 (of_z w64 s.args.s))) ≡ pos 100000000000 +ℤ s.args.s
  factor = rd+ ten11 (rd s.ranges.s) sum

pub overflow_add-s : goal.overflow_add-s
overflow_add-s c = fit+ ten11 (rd c.ranges.s) (sum c)

pub overflow_mul-r : goal.overflow_mul-r
overflow_mul-r c = fit* (rd c.ranges.r) (factor c) (product c)

pub over11-requires : goal.over11-requires
over11-requires c = (omega arith, rw (rd* (rd c.ranges.r) (factor c) (product c)) (omega (arith, most c)))

pub returns : goal.returns
unfolding scaled_rotation
returns c =
    let s = c.before in
    rd (record { sfits = c.over11.type_inv }) ∙ c.over11.ensures
    ∙ ap (λ (n : ℤ). mixed to_even (pos 0) n (pos 100000000000)) (rd* (rd s.ranges.r) (factor s) (product s))
    ∙ step-alone 100000000000 (s.args.r *ℤ (pos 100000000000 +ℤ s.args.s))
