-- The orders of refusals that the ranges of whole numbers decide.
use Rattle.std.specs.Prelude.{ℕ, Bool, not, List, [], ◌∷◌, ◌++◌, ℤ, ◌-ℤ◌}
use Rattle.refusal.specs.Numbers.{range, geodetic}
use Rattle.refusal.specs.Numbers as numbers
use Rattle.refusal.specs.Order.{Test, ◌gives◌, first}
use Rattle.ranges.specs.Ranges.{up_to, area, ellipsoid_range, latitude_range, longitude_range, height_range, offset_range}
use Rattle.angle.specs.declared.OriginNumbers.{OriginNumbers}

-- two longitudes at most 1,440,000,000 apart
abbrev pub nearby : ℤ → ℤ → Bool
nearby a b = up_to 1440000000 (a -ℤ b)

-- ---- the orders
abbrev pub angle_tests : ℤ → ℤ → List Test
angle_tests lat lon = (not (latitude_range lat) gives geodetic) ∷ (not (longitude_range lon) gives geodetic) ∷ []

abbrev pub origin_tests : OriginNumbers → List Test
origin_tests o =
    (not (ellipsoid_range o.ellipsoid) gives range)
    ∷ (not (offset_range o.false_easting) gives range)
    ∷ (not (offset_range o.false_northing) gives range)
    ∷ angle_tests o.latitude o.longitude

-- latitude, longitude and height: 12
abbrev pub geodetic_tests : ℤ → ℤ → ℤ → List Test
geodetic_tests lat lon h = angle_tests lat lon ++ ((not (height_range h) gives geodetic) ∷ [])

-- geodetic to Cartesian: 2, 12
abbrev pub cartesian_tests : ℤ → ℤ → ℤ → ℤ → List Test
cartesian_tests code lat lon h = (not (ellipsoid_range code) gives range) ∷ geodetic_tests lat lon h

-- Cartesian to geodetic, before anything is worked out: 2, 10
abbrev pub position_tests : ℤ → ℤ → ℤ → ℤ → List Test
position_tests code x y z = (not (ellipsoid_range code) gives range) ∷ (not (area x y z) gives numbers.area) ∷ []

-- a point on an origin of longitude lon₀: 12, 13
abbrev pub angles_and_meridian_tests : ℤ → ℤ → ℤ → List Test
angles_and_meridian_tests lon₀ lat lon = angle_tests lat lon ++ ((not (nearby lon lon₀) gives numbers.apart) ∷ [])

-- Cassini: 2, 12, 13
abbrev pub cassini_tests : OriginNumbers → ℤ → ℤ → List Test
cassini_tests o lat lon = origin_tests o ++ angles_and_meridian_tests o.longitude lat lon

-- ---- what a caller that reads angles and origins from lines asks: the number, or 0
unfoldable pub angles_fault : ℤ → ℤ → ℕ
angles_fault lat lon = first (angle_tests lat lon)

unfoldable pub origin_fault : OriginNumbers → ℕ
origin_fault o = first (origin_tests o)
