-- What is promised of the way from X, Y, Z to latitude, longitude and height, beside the definition, over the whole area and on every ellipsoid: every f64 on the way is
-- finite, what is rounded is bounded, and so no rounding refuses: a 12 is always a rounded result outside its ranges.
use Rattle.std.specs.Prelude.{◌≡◌, ℤ, pos, ◌+ℤ◌, Float}
use Rattle.refusal.specs.Order.{first}
use Rattle.rounding.specs.Decimals.{whole_of}
use Rattle.bounds.proofs.Among.{Among}
use Rattle.bounds.proofs.Formula.{Fine}
use Rattle.angle.specs.Ranges.{position_tests}
use Rattle.angle.specs.Ellipsoids.{ellipsoid_of}
use Rattle.angle.specs.Geodetic.{found_at, in_ranges, geodetic_units_of}
use Rattle.angle.proofs.Sizes.{above, size_up_to}
use Rattle.angle.proofs.GeodeticFormulas.{latitude_f, longitude_f, height_f, given}

-- latitude 0 to 43,200 seconds, which is never negative; longitude 22,000 to 140,000 seconds past 90 degrees; height at most 3,300,000 m in size
pub record FoundSized (a b c : Float) : Type 0 where
  pub latitude : Among a (above 0 1 43200 1)
  pub longitude : Among b (above 22000 1 140000 1)
  pub height : Among c (size_up_to 3300000 1)

abbrev pub FoundBounded : Type 0
FoundBounded = (code X Y Z : ℤ) → first (position_tests code X Y Z) ≡ 0 → let f = found_at (ellipsoid_of code) X Y Z in FoundSized f.latitude f.longitude f.height

-- nothing on the way is NaN or infinite: the three formulas are the definition's, step by step
abbrev pub EveryFinite : Type 0
EveryFinite =
    (code X Y Z : ℤ) →
    first (position_tests code X Y Z) ≡ 0 → Fine (given (ellipsoid_of code) X Y Z) latitude_f × Fine (given (ellipsoid_of code) X Y Z) longitude_f × Fine (given (ellipsoid_of code) X Y Z) height_f

abbrev pub NoneRefused : Type 0
NoneRefused =
    (code X Y Z : ℤ) →
    first (position_tests code X Y Z) ≡ 0 →
    let f = found_at (ellipsoid_of code) X Y Z in
    geodetic_units_of code X Y Z ≡ in_ranges (whole_of f.latitude 5) (whole_of f.longitude 5 +ℤ pos 32400000000) (whole_of f.height 5)

pub record GeodeticLaws : Type 0 where
  pub bounded : FoundBounded
  pub finite : EveryFinite
  pub rounded : NoneRefused
