-- `angle::geodetic::cartesian_metres` meets its contract: each return has the tests that led there. Assumes nothing.
use borrow.Author.Tests.{not-false}
use mathlib.Core.Path.{◌≡◌, sym, ap, ◌∙◌}
use mathlib.Core.Bool.{Bool, true, false, not}
use mathlib.Core.List.{[], ◌∷◌}
use lib.IntN.{ℤ, pos, negsuc}
use mir.Syntax.{w64}
use mir.Val.{SFits, to_z, of_z}
use mir.ValLaws.{to_z-of_z}
use Rattle.std.specs.Prelude.{Ok, Err}
use Rattle.refusal.specs.Order.{◌gives◌, first}
use Rattle.refusal.specs.Numbers.{range, geodetic}
use Rattle.refusal.specs.Refusals.{number}
use Rattle.refusal.specs.declared.Refusal.{Refusal}
use Rattle.refusal.proofs.Orders.{Passed, none, stop, on}
use Rattle.refusal.proofs.Refusals.{not-none, unless-number}
use Rattle.ranges.specs.Ranges.{within, ellipsoid_range, height_range}
use Rattle.ranges.proofs.Ranges.{told}
use Rattle.angle.specs.Ranges.{angle_tests, cartesian_tests}
use Rattle.angle.specs.Ellipsoids.{ellipsoid_of}
use Rattle.angle.specs.Cartesian.{cartesian_at, cartesian_of}
use Rattle.angle.proofs.Exits.{told-is}
use Rattle.angle.proofs.NoFault.{angles-read, angles-passed}
use Rattle.angle.proofs.geodetic.cartesian_metres.Goals as goal

-- ---- the answer by the tests
module _ (z lat lon h : ℤ) where
  by_code : ellipsoid_range z ≡ false → Err range ≡ cartesian_of z lat lon h
  unfolding cartesian_of
  by_code e = rw e

  by-angles : ellipsoid_range z ≡ true → (r : Refusal) → number r ≡ first (angle_tests lat lon) → Err (number r) ≡ cartesian_of z lat lon h
  unfolding cartesian_of
  by-angles e r f =
      rw (e, stop (angle_tests lat lon) ((not (height_range h) gives geodetic) ∷ []) (λ (k : first (angle_tests lat lon) ≡ 0). not-none r (f ∙ k)))
      (sym (unless-number r (first (angle_tests lat lon)) Err (Ok (cartesian_at (ellipsoid_of z) lat lon h)) f))

  by_height : ellipsoid_range z ≡ true → Passed (angle_tests lat lon) → height_range h ≡ false → Err geodetic ≡ cartesian_of z lat lon h
  unfolding cartesian_of
  by_height e p k = rw (e, on (angle_tests lat lon) ((not (height_range h) gives geodetic) ∷ []) p, k)

  by-none : Passed (cartesian_tests z lat lon h) → Ok (cartesian_at (ellipsoid_of z) lat lon h) ≡ cartesian_of z lat lon h
  unfolding cartesian_of
  by-none p = rw (none (cartesian_tests z lat lon h) p)

-- what the tests say of the code and of the height
code : (z : ℤ) {r t : Bool} → SFits w64 z → r ≡ within (pos 1) (to_z w64 (of_z w64 z)) (pos 4) → r ≡ t → ellipsoid_range z ≡ t
code z f e h = told (pos 1) z (pos 4) f e h

height : (z : ℤ) {r t : Bool} → SFits w64 z → r ≡ within (negsuc 49999999) (to_z w64 (of_z w64 z)) (pos 900000000) → r ≡ t → height_range z ≡ t
height z f e h = told (negsuc 49999999) z (pos 900000000) f e h

pub returns-then-not-is_ellipsoid : goal.returns-then-not-is_ellipsoid
returns-then-not-is_ellipsoid c =
    let a = c.args in
    by_code a.code a.latitude a.longitude a.height (code a.code c.ranges.code c.is_ellipsoid.ensures c.if-not-is_ellipsoid.true)

pub returns-in_err-angles_fault : goal.returns-in_err-angles_fault
returns-in_err-angles_fault c =
    let a = c.args in
    let r = c.in_err-angles_fault.field-0.0 in
    told-is c.from_residual.result r c.from_residual.ensures.1
    ∙ by-angles a.code a.latitude a.longitude a.height (code a.code c.ranges.code c.is_ellipsoid.ensures c.if-not-is_ellipsoid.false) r
    (c.in_err-angles_fault.ensures ∙ angles-read a.latitude a.longitude c.ranges.latitude c.ranges.longitude)

pub returns-then-not-is_height : goal.returns-then-not-is_height
returns-then-not-is_height c =
    let a = c.args in
    by_height a.code a.latitude a.longitude a.height (code a.code c.ranges.code c.is_ellipsoid.ensures c.if-not-is_ellipsoid.false)
    (angles-passed a.latitude a.longitude c.ranges.latitude c.ranges.longitude c.in_ok-angles_fault.ensures)
    (height a.height c.ranges.height c.is_height.ensures c.if-not-is_height.true)

pub position-requires : goal.position-requires
position-requires c =
    let a = c.args in
    let p = angles-passed a.latitude a.longitude c.ranges.latitude c.ranges.longitude c.in_ok-angles_fault.ensures in
    rw (to_z-of_z w64 a.latitude c.ranges.latitude, to_z-of_z w64 a.longitude c.ranges.longitude, to_z-of_z w64 a.height c.ranges.height)
    (not-false _ p.0, not-false _ p.1.0, height a.height c.ranges.height c.is_height.ensures c.if-not-is_height.false)

pub returns : goal.returns
returns c =
    let a = c.args in
    let p = angles-passed a.latitude a.longitude c.ranges.latitude c.ranges.longitude c.in_ok-angles_fault.ensures in
    let e = code a.code c.ranges.code c.is_ellipsoid.ensures c.if-not-is_ellipsoid.false in
    let k = height a.height c.ranges.height c.is_height.ensures c.if-not-is_height.false in
    let z : to_z w64 (of_z w64 a.code) ≡ a.code = to_z-of_z w64 a.code c.ranges.code in
    let lat : to_z w64 (of_z w64 a.latitude) ≡ a.latitude = to_z-of_z w64 a.latitude c.ranges.latitude in
    let lon : to_z w64 (of_z w64 a.longitude) ≡ a.longitude = to_z-of_z w64 a.longitude c.ranges.longitude in
    let h : to_z w64 (of_z w64 a.height) ≡ a.height = to_z-of_z w64 a.height c.ranges.height in
    rw (c.position.ensures, c.ellipsoid.ensures, z, lat, lon, h) (by-none a.code a.latitude a.longitude a.height (ap not e, (p.0, (p.1.0, (ap not k, tt)))))
