-- `angle::from_xyz::geodetic_units` meets its contract: each return has the tests that led there. Assumes nothing.
use mathlib.Core.Path.{◌≡◌, sym, ◌∙◌}
use mathlib.Core.Bool.{Bool, true, false}
use lib.IntN.{ℤ, pos}
use mir.Syntax.{w64}
use mir.Val.{to_z, of_z}
use mir.ValLaws.{to_z-of_z}
use Rattle.refusal.specs.Numbers.{range}
use Rattle.refusal.specs.Numbers as numbers
use Rattle.ranges.specs.Ranges.{ellipsoid_range, area}
use Rattle.ranges.proofs.Ranges.{told}
use Rattle.angle.specs.Ellipsoids.{ellipsoid_of}
use Rattle.angle.specs.Geodetic.{found_at, in_angles, geodetic_units_of}
use Rattle.std.specs.Prelude.{Err}
use Rattle.angle.proofs.from_xyz.geodetic_units.Tie as tie
use Rattle.angle.proofs.from_xyz.geodetic_units.Lts as lts
use Rattle.angle.proofs.from_xyz.geodetic_units.Reads as reads
use Rattle.angle.proofs.from_xyz.geodetic_units.Goals as goal

abbrev TheAfterInArea : Type 0
TheAfterInArea = lts.After-in_area tie.the-claims reads.Pre reads.Post

abbrev TheAfterIsEllipsoid : Type 0
TheAfterIsEllipsoid = lts.After-is_ellipsoid tie.the-claims reads.Pre reads.Post

-- ---- the answer by the tests
module _ (code x y z : ℤ) where
  by_code : ellipsoid_range code ≡ false → Err range ≡ geodetic_units_of code x y z
  unfolding geodetic_units_of
  by_code e = rw e

  by-area : ellipsoid_range code ≡ true → area x y z ≡ false → Err numbers.area ≡ geodetic_units_of code x y z
  unfolding geodetic_units_of
  by-area e f = rw (e, f)

  by-none : ellipsoid_range code ≡ true → area x y z ≡ true → in_angles (found_at (ellipsoid_of code) x y z) ≡ geodetic_units_of code x y z
  unfolding geodetic_units_of
  by-none e f = rw (e, f)

-- ---- the tests on the way
good-code : (c : TheAfterIsEllipsoid) (t : Bool) → c.is_ellipsoid.result ≡ t → ellipsoid_range c.args.code ≡ t
good-code c t h = told (pos 1) c.args.code (pos 4) c.ranges.code c.is_ellipsoid.ensures h

inside : (c : TheAfterInArea) (t : Bool) → c.in_area.result ≡ t → area c.args.x c.args.y c.args.z ≡ t
inside c t h =
    let a = c in
    sym (c.in_area.ensures ∙ rw (to_z-of_z w64 a.args.x a.ranges.x, to_z-of_z w64 a.args.y a.ranges.y, to_z-of_z w64 a.args.z a.ranges.z)) ∙ h

pub returns-then-not-is_ellipsoid : goal.returns-then-not-is_ellipsoid
returns-then-not-is_ellipsoid c = let a = c.args in by_code a.code a.x a.y a.z (good-code c.before false (c.if-not-is_ellipsoid.true))

pub returns-then-not-in_area : goal.returns-then-not-in_area
returns-then-not-in_area c =
    let a = c.args in
    by-area a.code a.x a.y a.z (good-code c.before.before.before true (c.if-not-is_ellipsoid.false)) (inside c.before false (c.if-not-in_area.true))

pub found-requires : goal.found-requires
found-requires c =
    let a = c in
    rw (to_z-of_z w64 a.args.x a.ranges.x, to_z-of_z w64 a.args.y a.ranges.y, to_z-of_z w64 a.args.z a.ranges.z) (inside c.before.before true (c.if-not-in_area.false))

pub returns : goal.returns
returns c =
    let a = c in
    let i : to_z w64 (of_z w64 a.args.code) ≡ a.args.code = to_z-of_z w64 a.args.code a.ranges.code in
    let x : to_z w64 (of_z w64 a.args.x) ≡ a.args.x = to_z-of_z w64 a.args.x a.ranges.x in
    let y : to_z w64 (of_z w64 a.args.y) ≡ a.args.y = to_z-of_z w64 a.args.y a.ranges.y in
    let z : to_z w64 (of_z w64 a.args.z) ≡ a.args.z = to_z-of_z w64 a.args.z a.ranges.z in
    rw (c.in_angles.ensures, c.found.ensures, c.ellipsoid.ensures, i, x, y, z) (by-none a.args.code a.args.x a.args.y a.args.z (good-code c.before.before.before.before.before.before true (c.if-not-is_ellipsoid.false)) (inside c.before.before.before.before true (c.if-not-in_area.false)))
