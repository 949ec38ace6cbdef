-- What is promised of geodetic to Cartesian and of Cassini, beside the definitions: the exact case, that every f64 answer is finite and how large, and that
-- no rounding refuses (14) what the calls in metres answer.
use Rattle.std.specs.Prelude.{◌≡◌, ℤ, Float, Ok}
use Rattle.bounds.proofs.Among.{Among}
use Rattle.rounding.specs.Decimals.{whole_of}
use Rattle.angle.specs.declared.OriginNumbers.{OriginNumbers}
use Rattle.angle.specs.Units.{metres}
use Rattle.angle.specs.Ranges.{origin_fault}
use Rattle.angle.specs.Cartesian.{cartesian_of, cartesian_units_of}
use Rattle.angle.specs.Cassini.{cassini_of, cassini_millimetres_of}
use Rattle.angle.proofs.Sizes.{size_up_to}

-- every accepted origin goes to exactly its false easting and northing
abbrev pub AtOrigin : Type 0
AtOrigin = (o : OriginNumbers) → origin_fault o ≡ 0 → cassini_of o o.latitude o.longitude ≡ Ok (record { easting = metres o.false_easting; northing = metres o.false_northing })

-- a position's X, Y and Z: finite, and at most so many metres in size
pub record PositionBounded (a b c : Float) : Type 0 where
  pub x : Among a (size_up_to 3700000 1)
  pub y : Among b (size_up_to 7500000 1)
  pub z : Among c (size_up_to 1000000 1)

abbrev pub CartesianFinite : Type 0
CartesianFinite = (code lat lon h : ℤ) (x y z : Float) → cartesian_of code lat lon h ≡ Ok (record { x = x; y = y; z = z }) → PositionBounded x y z

-- an easting and a northing
pub record Laid (a b : Float) : Type 0 where
  pub east : Among a (size_up_to 2500000 1)
  pub north : Among b (size_up_to 3900000 1)

abbrev pub ProjectedFinite : Type 0
ProjectedFinite = (o : OriginNumbers) (lat lon : ℤ) (e n : Float) → cassini_of o lat lon ≡ Ok (record { easting = e; northing = n }) → Laid e n

-- what is answered in metres is answered in whole units, and in whole millimetres
abbrev pub UnitsAnswered : Type 0
UnitsAnswered =
    (code lat lon h : ℤ) (x y z : Float) →
    cartesian_of code lat lon h ≡ Ok (record { x = x; y = y; z = z }) → cartesian_units_of code lat lon h ≡ Ok (record { x = whole_of x 5; y = whole_of y 5; z = whole_of z 5 })

abbrev pub MillimetresAnswered : Type 0
MillimetresAnswered =
    (o : OriginNumbers) (lat lon : ℤ) (e n : Float) →
    cassini_of o lat lon ≡ Ok (record { easting = e; northing = n }) → cassini_millimetres_of o lat lon ≡ Ok (record { easting = whole_of e 3; northing = whole_of n 3 })

pub record ProjectionLaws : Type 0 where
  pub origin : AtOrigin
  pub position : CartesianFinite
  pub projected : ProjectedFinite
  pub units : UnitsAnswered
  pub millimetres : MillimetresAnswered
