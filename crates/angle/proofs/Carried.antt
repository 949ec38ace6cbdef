-- What angles and an origin are refused for cannot tell them from the same with their numbers carried another way, where the ranges can't. Assumes nothing.
use mathlib.Core.Path.{◌≡◌}
use mathlib.Core.Bool.{Bool, false, not}
use lib.IntN.{ℤ}
use borrow.Author.Tests.{not-false}
use Rattle.refusal.proofs.Orders as orders
use Rattle.ranges.proofs.Carried.{Sure, Careful, Carries, sure-ellipsoid, sure-offset, sure-latitude, sure-longitude}
use Rattle.angle.specs.Ranges.{angle_tests, origin_tests, angles_fault, origin_fault}
use Rattle.angle.specs.Carried.{carried_origin}

-- where the refusal of a test is not given
kept-not : {A : Type 0} {carried : A → A} {test : A → Bool} → Sure carried test → (a : A) → not (test a) ≡ false → carried a ≡ a
kept-not {test = test} p a e = p.kept a (not-false (test a) e)

module _ {carried : ℤ → ℤ} (c : Carries carried) where
  pub same-angles : (lat lon : ℤ) → angles_fault (carried lat) (carried lon) ≡ angles_fault lat lon
  unfolding angles_fault
  same-angles lat lon = rw ((sure-latitude c).same lat, (sure-longitude c).same lon)

  pub kept-angles : (lat lon : ℤ) → angles_fault lat lon ≡ 0 → (carried lat ≡ lat) × (carried lon ≡ lon)
  unfolding angles_fault
  kept-angles lat lon e =
      let p = orders.passed (angle_tests lat lon) tt e in
      (kept-not (sure-latitude c) lat p.0, kept-not (sure-longitude c) lon p.1.0)

  pub careful-origin : Careful origin_fault (carried_origin carried)
  unfolding origin_fault
  careful-origin =
      record {
        same =
            λ o.
            rw ((sure-ellipsoid c).same o.ellipsoid, (sure-offset c).same o.false_easting, (sure-offset c).same o.false_northing, (sure-latitude c).same o.latitude, (sure-longitude c).same o.longitude);
        kept =
            λ o e.
            let p = orders.passed (origin_tests o) tt e in
            rw (kept-not (sure-ellipsoid c) o.ellipsoid p.0, kept-not (sure-offset c) o.false_easting p.1.0, kept-not (sure-offset c) o.false_northing p.1.1.0, kept-not (sure-latitude c) o.latitude p.1.1.1.0, kept-not (sure-longitude c) o.longitude p.1.1.1.1.0);
      }
