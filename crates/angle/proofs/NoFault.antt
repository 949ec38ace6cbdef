-- What it means that an origin and a point on it have no fault. Assumes nothing.
use borrow.Author.Tests.{not-false}
use mathlib.Core.Path.{◌≡◌, refl, sym, ◌∙◌}
use mathlib.Core.Bool.{true}
use lib.IntN.{ℤ}
use mir.Syntax.{w64}
use mir.Val.{SFits, to_z, of_z}
use mir.ValLaws.{to_z-of_z}
use Rattle.refusal.specs.Order.{first}
use Rattle.ranges.specs.Ranges.{latitude_range}
use Rattle.angle.specs.Ranges.{nearby, angle_tests, origin_tests, angles_and_meridian_tests, angles_fault, origin_fault}
use Rattle.angle.specs.declared.OriginNumbers.{OriginNumbers}
use Rattle.refusal.proofs.Orders.{Passed, passed}

-- what two angles are refused for, by their tests
pub angles-first : (lat lon : ℤ) → angles_fault lat lon ≡ first (angle_tests lat lon)
unfolding angles_fault
angles-first lat lon = refl

-- the same of what the machine reads back from their bits
pub angles-read : (lat lon : ℤ) → SFits w64 lat → SFits w64 lon → angles_fault (to_z w64 (of_z w64 lat)) (to_z w64 (of_z w64 lon)) ≡ first (angle_tests lat lon)
unfolding angles_fault
angles-read lat lon f g = rw (to_z-of_z w64 lat f, to_z-of_z w64 lon g)

pub angles-passed : (lat lon : ℤ) → SFits w64 lat → SFits w64 lon → 0 ≡ angles_fault (to_z w64 (of_z w64 lat)) (to_z w64 (of_z w64 lon)) → Passed (angle_tests lat lon)
angles-passed lat lon f g e = passed (angle_tests lat lon) tt (sym (e ∙ angles-read lat lon f g))

-- an origin's latitude is in its range
pub origin-latitude : (o : OriginNumbers) → origin_fault o ≡ 0 → latitude_range o.latitude ≡ true
unfolding origin_fault
origin-latitude o h = not-false _ (passed (origin_tests o) tt h).1.1.1.0

pub point-read : (o lat lon : ℤ) → SFits w64 o → SFits w64 lat → SFits w64 lon
    → first (angles_and_meridian_tests (to_z w64 (of_z w64 o)) (to_z w64 (of_z w64 lat)) (to_z w64 (of_z w64 lon))) ≡ first (angles_and_meridian_tests o lat lon)
point-read o lat lon f g h = rw (to_z-of_z w64 o f, to_z-of_z w64 lat g, to_z-of_z w64 lon h) refl

-- a point's latitude is in its range, and its longitude not too far from the origin's
pub point-near : (o lat lon : ℤ) → first (angles_and_meridian_tests o lat lon) ≡ 0 → (latitude_range lat ≡ true) × (nearby lon o ≡ true)
point-near o lat lon h = let p = passed (angles_and_meridian_tests o lat lon) tt h in (not-false _ p.0, not-false _ p.1.1.0)
