-- `angle::from_xyz::found` meets its contract: the numbers are f64s exactly, and the formulas are the written ones. Assumes nothing.
use mathlib.Core.Path.{◌≡◌}
use mathlib.Core.Bool.{true}
use Prim.Native.Nat.{◌≤◌}
use lib.Dec.{T, lit≤}
use lib.IntN.{ℤ, pos, negsuc, nat_abs}
use lib.Ieee.{binary64, in_float, of_bits, round}
use mir.Syntax.{w64}
use mir.Val.{SFits, to_z, of_z}
use mir.ValLaws.{to_z-of_z}
use Rattle.ranges.specs.Ranges.{within, area_x, area_y, area_z}
use Rattle.ranges.proofs.Ranges.{all}
use Rattle.angle.specs.Units.{seconds}
use Rattle.angle.specs.Geodetic.{found_at}
use Rattle.angle.proofs.Tests.{read_back}
use Rattle.angle.proofs.Wholes.{between-upto, in-float}
use Rattle.angle.proofs.from_xyz.found.Tie as tie
use Rattle.angle.proofs.from_xyz.found.Lts as lts
use Rattle.angle.proofs.from_xyz.found.Reads as reads
use Rattle.angle.proofs.from_xyz.found.Goals as goal

abbrev TheStart : Type 0
TheStart = lts.Start tie.the-claims reads.Pre reads.Post

module _ (c : TheStart) where
  p : (area_x c.args.x ≡ true) × (area_y c.args.y ≡ true) × (area_z c.args.z ≡ true)
  p = all (area_x c.args.x) (area_y c.args.y) (area_z c.args.z) c.requires

  -- the number is an f64 exactly, and the machine reads it back from its bits
  exact : (z lo hi : ℤ) → SFits w64 z → nat_abs lo ≤ 640000000000 → nat_abs hi ≤ 640000000000 → within lo z hi ≡ true → T (in_float binary64 (to_z w64 (of_z w64 z)))
  exact z lo hi f l h e = read_back z f (in-float 640000000000 z tt (between-upto 640000000000 lo z hi l h e))

  x-float : T (in_float binary64 (to_z w64 (of_z w64 c.args.x)))
  x-float = exact c.args.x (negsuc 329999999999) (negsuc 89999999999) c.ranges.x (lit≤ tt) (lit≤ tt) p.0

  y-float : T (in_float binary64 (to_z w64 (of_z w64 c.args.y)))
  y-float = exact c.args.y (pos 540000000000) (pos 640000000000) c.ranges.y (lit≤ tt) (lit≤ tt) p.1

  z-float : T (in_float binary64 (to_z w64 (of_z w64 c.args.z)))
  z-float = exact c.args.z (pos 0) (pos 90000000000) c.ranges.z (lit≤ tt) (lit≤ tt) p.2

pub int_to_float-across : goal.int_to_float-across
int_to_float-across c = x-float c.before.before

pub int_to_float-along : goal.int_to_float-along
int_to_float-along c = y-float c.before.before.before

pub int_to_float-up : goal.int_to_float-up
int_to_float-up c = z-float c.before.before.before.before

pub returns : goal.returns
unfolding found_at seconds round of_bits
returns c =
    let a = c in
    let x : to_z w64 (of_z w64 a.args.x) ≡ a.args.x = to_z-of_z w64 a.args.x a.ranges.x in
    let y : to_z w64 (of_z w64 a.args.y) ≡ a.args.y = to_z-of_z w64 a.args.y a.ranges.y in
    let z : to_z w64 (of_z w64 a.args.z) ≡ a.args.z = to_z-of_z w64 a.args.z a.ranges.z in
    cc
