-- `velocity_grid::between::blend` meets its contract: every product and the sum fit. Assumes nothing.
use mathlib.Core.Path.{◌≡◌, ◌∙◌}
use Prim.Native.Nat.{◌+◌, ◌*◌, ◌≤◌}
use native.Mathlib.Nat as NatL
use native.Mathlib.Omega.{arith}
use lib.IntN.{ℤ, nat_abs, ◌+ℤ◌, ◌-ℤ◌, ◌*ℤ◌}
use mir.Syntax.{w64}
use mir.Val.{SFits, to_z, of_z}
use Rattle.rounding.proofs.Zn.{mul-le}
use Rattle.rounding.proofs.Machine.{fits, rd, rd+, rd-, rd*, fit+, fit-, fit*}
use Rattle.velocity_grid.specs.Bilinear.{blend}
use Rattle.velocity_grid.proofs.Bilinear.{parted, blend-size}
use Rattle.velocity_grid.proofs.between.blend.Tie as tie
use Rattle.velocity_grid.proofs.between.blend.Lts as lts
use Rattle.velocity_grid.proofs.between.blend.Reads as reads
use Rattle.velocity_grid.proofs.between.blend.Goals as goal

abbrev TheStart : Type 0
TheStart = lts.Start reads.Pre reads.Post

module _ (s : TheStart) where
  abbrev M : ℤ
  M = s.args.m

  abbrev X : ℤ
  X = s.args.x

  abbrev A : ℤ
  A = s.args.a

  abbrev B : ℤ
  B = s.args.b

  together : nat_abs (M -ℤ X) + nat_abs X ≡ nat_abs M
  together = parted s.requires.from s.requires.to

  left : nat_abs (M -ℤ X) ≤ 60000000
  left = let e = together in omega (arith, s.requires.mesh)

  way : nat_abs X ≤ 60000000
  way = let e = together in omega (arith, s.requires.mesh)

  left-fits : SFits w64 (M -ℤ X)
  left-fits = fits 60000000 left (omega arith)

  first_fits : SFits w64 (A *ℤ (M -ℤ X))
  first_fits = fits 9000000000000000000 (mul-le A (M -ℤ X) 150000000000 60000000 s.requires.first left) (omega arith)

  second_fits : SFits w64 (B *ℤ X)
  second_fits = fits 9000000000000000000 (mul-le B X 150000000000 60000000 s.requires.second way) (omega arith)

  sum_fits : SFits w64 (A *ℤ (M -ℤ X) +ℤ B *ℤ X)
  unfolding blend
  sum_fits =
      fits 9000000000000000000
      (NatL.le_trans (blend-size s.requires.from s.requires.to A B 150000000000 s.requires.first s.requires.second) (NatL.mul-le-mul_left 150000000000 s.requires.mesh))
      (omega arith)

  first : to_z w64 (of_z w64 (to_z w64 (of_z w64 A) *ℤ to_z w64 (of_z w64 (to_z w64 (of_z w64 M) -ℤ to_z w64 (of_z w64 X))))) ≡ A *ℤ (M -ℤ X)
  first = rd* (rd s.ranges.a) (rd- (rd s.ranges.m) (rd s.ranges.x) left-fits) first_fits

  second : to_z w64 (of_z w64 (to_z w64 (of_z w64 B) *ℤ to_z w64 (of_z w64 X))) ≡ B *ℤ X
  second = rd* (rd s.ranges.b) (rd s.ranges.x) second_fits

pub overflow_sub-result : goal.overflow_sub-result
overflow_sub-result c = fit- (rd c.ranges.m) (rd c.ranges.x) (left-fits c)

pub overflow_mul-result : goal.overflow_mul-result
overflow_mul-result c = fit* (rd c.ranges.a) (rd- (rd c.ranges.m) (rd c.ranges.x) (left-fits c)) (first_fits c)

pub overflow_mul-result-2 : goal.overflow_mul-result-2
overflow_mul-result-2 c = fit* (rd c.ranges.b) (rd c.ranges.x) (second_fits c)

pub overflow_add-result : goal.overflow_add-result
overflow_add-result c = fit+ (first c) (second c) (sum_fits c)

pub returns : goal.returns
unfolding blend
returns c = rd+ (first c) (second c) (sum_fits c)
