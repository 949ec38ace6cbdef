-- The orders of refusals of the rounding and of the angle calls: a case for each test of an order, in which that one fails and every later one that can. What
-- is wanted is worked out by hand from the tables of ranges.
use Rattle.std.specs.Prelude.{false, true, ◌≡◌, List, [], ◌∷◌, ℕ, ℤ, pos, negsuc, Ok, Err}
use Rattle.std.specs.Float.{nan, inf, fin}
use Rattle.refusal.specs.Numbers as refusal
use Rattle.refusal.specs.Order.{first}
use Rattle.rounding.specs.Decimals.{Rounded, rounded_of}
use Rattle.angle.specs.declared.OriginNumbers.{OriginNumbers}
use Rattle.angle.specs.Ranges.{cartesian_tests, position_tests, cassini_tests, geodetic_tests}

-- an f64 at decimal places: 2 for the places, then 14 for the size; 9,999,999 is answered
abbrev pub roundings : List Rounded
roundings =
    rounded_of nan 6
    ∷ rounded_of nan 5
    ∷ rounded_of (inf true) 0
    ∷ rounded_of (fin false 10000000 (pos 0)) 5
    ∷ rounded_of (fin true 9999999 (pos 0)) 0
    ∷ []

abbrev pub RoundingOrder : Type 0
RoundingOrder = roundings ≡ Err refusal.range ∷ Err refusal.size ∷ Err refusal.size ∷ Err refusal.size ∷ Ok (negsuc 9999998) ∷ []

-- geodetic to Cartesian: 2 for the ellipsoid, 12 for the latitude, the longitude, the height
abbrev pub cartesians : List ℕ
cartesians =
    first (cartesian_tests (pos 5) (negsuc 0) (pos 0) (pos 900000001))
    ∷ first (cartesian_tests (pos 4) (negsuc 0) (pos 0) (pos 900000001))
    ∷ first (cartesian_tests (pos 4) (pos 2880000000) (pos 43200000001) (pos 900000001))
    ∷ first (cartesian_tests (pos 4) (pos 2880000000) (pos 43200000000) (negsuc 50000000))
    ∷ first (cartesian_tests (pos 4) (pos 2880000000) (pos 43200000000) (negsuc 49999999))
    ∷ []

abbrev pub CartesianOrder : Type 0
CartesianOrder = cartesians ≡ refusal.range ∷ refusal.geodetic ∷ refusal.geodetic ∷ refusal.geodetic ∷ 0 ∷ []

-- Cartesian to geodetic: 2 for the ellipsoid, 10 for X, Y, Z, of any size; then 12 for what comes out
abbrev pub positions : List ℕ
positions =
    first (position_tests (pos 0) (pos 0) (pos 0) (negsuc 0))
    ∷ first (position_tests (pos 1) (pos 0) (pos 0) (negsuc 0))
    ∷ first (position_tests (pos 1) (negsuc 89999999999) (pos 640000000001) (negsuc 0))
    ∷ first (position_tests (pos 1) (negsuc 329999999999) (pos 640000000000) (pos 90000000001))
    ∷ first (position_tests (pos 1) (negsuc 89999999999) (pos 540000000000) (pos 9223372036854775807))
    ∷ first (position_tests (pos 1) (negsuc 89999999999) (pos 540000000000) (pos 90000000000))
    ∷ first (geodetic_tests (pos 2880000001) (pos 35639999999) (pos 900000001))
    ∷ first (geodetic_tests (pos 2880000000) (pos 35639999999) (pos 900000001))
    ∷ first (geodetic_tests (pos 2880000000) (pos 35640000000) (pos 900000001))
    ∷ first (geodetic_tests (pos 2880000000) (pos 35640000000) (pos 900000000))
    ∷ []

abbrev wanted_of_positions : List ℕ
wanted_of_positions =
    refusal.range
    ∷ refusal.area
    ∷ refusal.area
    ∷ refusal.area
    ∷ refusal.area
    ∷ 0
    ∷ refusal.geodetic
    ∷ refusal.geodetic
    ∷ refusal.geodetic
    ∷ 0
    ∷ []

abbrev pub PositionOrder : Type 0
PositionOrder = positions ≡ wanted_of_positions

-- an origin at longitude 102°, which reaches from 98° to 106°
abbrev origin : ℤ → ℤ → ℤ → ℤ → OriginNumbers
origin ellipsoid latitude easting northing =
    record { ellipsoid = ellipsoid; latitude = latitude; longitude = pos 36720000000; false_easting = easting; false_northing = northing }

abbrev elsewhere : OriginNumbers
elsewhere = record { ellipsoid = pos 3; latitude = pos 0; longitude = pos 35639999999; false_easting = pos 0; false_northing = pos 0 }

-- Cassini: 2 for the origin's ellipsoid, false easting, false northing; 12 for its latitude and longitude, then for the point's; 13
abbrev pub cassinis : List ℕ
cassinis =
    first (cassini_tests (origin (pos 5) (negsuc 0) (pos 2000000001) (pos 2000000001)) (negsuc 0) (pos 0))
    ∷ first (cassini_tests (origin (pos 1) (negsuc 0) (pos 2000000001) (pos 0)) (negsuc 0) (pos 0))
    ∷ first (cassini_tests (origin (pos 1) (negsuc 0) (pos 2000000000) (negsuc 2000000000)) (negsuc 0) (pos 0))
    ∷ first (cassini_tests (origin (pos 1) (negsuc 0) (pos 2000000000) (negsuc 1999999999)) (pos 0) (pos 38160000001))
    ∷ first (cassini_tests elsewhere (pos 0) (pos 38160000001))
    ∷ first (cassini_tests (origin (pos 4) (pos 0) (pos 0) (pos 0)) (pos 2880000001) (pos 38160000001))
    ∷ first (cassini_tests (origin (pos 4) (pos 0) (pos 0) (pos 0)) (pos 2880000000) (pos 43200000001))
    ∷ first (cassini_tests (origin (pos 4) (pos 0) (pos 0) (pos 0)) (pos 2880000000) (pos 38160000001))
    ∷ first (cassini_tests (origin (pos 4) (pos 0) (pos 0) (pos 0)) (pos 2880000000) (pos 38160000000))
    ∷ []

abbrev wanted_of_cassinis : List ℕ
wanted_of_cassinis =
    refusal.range
    ∷ refusal.range
    ∷ refusal.range
    ∷ refusal.geodetic
    ∷ refusal.geodetic
    ∷ refusal.geodetic
    ∷ refusal.geodetic
    ∷ refusal.apart
    ∷ 0
    ∷ []

abbrev pub CassiniOrder : Type 0
CassiniOrder = cassinis ≡ wanted_of_cassinis

pub record Orders : Type 0 where
  pub rounding : RoundingOrder
  pub cartesian : CartesianOrder
  pub position : PositionOrder
  pub cassini : CassiniOrder
