-- Cassini-Soldner, forward, in the order written.
use Rattle.std.specs.Prelude.{ℕ, ℤ, ◌-ℤ◌, Float, Result, Ok, Err}
use Rattle.refusal.specs.Order.{first, unless}
use Rattle.rounding.specs.Decimals.{Rounded, rounded_of}
use Rattle.elementary.specs.Floats.{◌⊗◌, ◌⊘◌, ◌⊕◌, ◌⊖◌, #}
use Rattle.angle.specs.Units.{radians, metres}
use Rattle.angle.specs.Ranges.{origin_fault, angles_and_meridian_tests, cassini_tests}
use Rattle.elementary.specs.Series.{sine_of, cosine_of}
use Rattle.angle.specs.Ellipsoids.{ellipsoid_of, prime_vertical, meridian_arc}
use Rattle.angle.specs.declared.OriginNumbers.{OriginNumbers}
use Rattle.angle.specs.declared.Origin.{Origin}
use Rattle.angle.specs.declared.Projected.{Projected}
use Rattle.angle.specs.declared.Millimetres.{Millimetres}

-- an origin's f64 values, made once
unfoldable pub origin_made : OriginNumbers → Origin
unfolding ellipsoid_of
origin_made o =
    let e = ellipsoid_of o.ellipsoid in
    record {
      ellipsoid = e;
      longitude = o.longitude;
      m0 = meridian_arc e (radians o.latitude);
      false_easting = metres o.false_easting;
      false_northing = metres o.false_northing;
    }

-- refused: 2, 12
unfoldable pub origin_of : OriginNumbers → Result Origin ℕ
unfolding origin_fault origin_made
origin_of o = unless (origin_fault o) Err (Ok (origin_made o))

-- of the point's latitude φ: its sine and cosine, ν and M; and the difference of the longitudes in radians.
-- FN + ((M - M0) + ..): from the left the origin would miss FN by a rounding.
unfoldable pub cassini_with : Origin → Float → Float → Float → Float → Float → Projected
cassini_with o sinφ cosφ ν M difference =
    let FE = o.false_easting in
    let FN = o.false_northing in
    let e2 = o.ellipsoid.e2 in
    let M0 = o.m0 in
    let A = difference ⊗ cosφ in
    let t = sinφ ⊘ cosφ in
    let T = t ⊗ t in
    let C = ((e2 ⊘ (# 1 ⊖ e2)) ⊗ cosφ) ⊗ cosφ in
    let A2 = A ⊗ A in
    let A3 = A2 ⊗ A in
    let A4 = A2 ⊗ A2 in
    let A5 = A4 ⊗ A in
    let E = FE ⊕ ν ⊗ ((A ⊖ (T ⊗ A3) ⊘ # 6) ⊖ ((((# 8 ⊖ T) ⊕ # 8 ⊗ C) ⊗ T) ⊗ A5) ⊘ # 120) in
    let N = FN ⊕ ((M ⊖ M0) ⊕ (ν ⊗ t) ⊗ (A2 ⊘ # 2 ⊕ (((# 5 ⊖ T) ⊕ # 6 ⊗ C) ⊗ A4) ⊘ # 24)) in
    record { easting = E; northing = N }

-- the difference of the longitudes is taken in whole numbers
unfoldable pub cassini_at : Origin → ℤ → ℤ → Projected
unfolding cassini_with
cassini_at o latitude longitude =
    let φ = radians latitude in
    let sinφ = sine_of φ in
    let cosφ = cosine_of φ in
    let ν = prime_vertical o.ellipsoid sinφ in
    let M = meridian_arc o.ellipsoid φ in
    cassini_with o sinφ cosφ ν M (radians (longitude -ℤ o.longitude))

-- a point on a made origin, refused: 12, 13
unfoldable pub cassini_from_of : Origin → ℤ → ℤ → Result Projected ℕ
unfolding cassini_at
cassini_from_of o latitude longitude = unless (first (angles_and_meridian_tests o.longitude latitude longitude)) Err (Ok (cassini_at o latitude longitude))

-- refused: 2, 12, 13
unfoldable pub cassini_of : OriginNumbers → ℤ → ℤ → Result Projected ℕ
unfolding origin_made cassini_at
cassini_of o latitude longitude = unless (first (cassini_tests o latitude longitude)) Err (Ok (cassini_at (origin_made o) latitude longitude))

-- both, or the first refusal
abbrev pub two : Rounded → Rounded → Result Millimetres ℕ
two (Err n) y = Err n
two (Ok x) (Err n) = Err n
two (Ok x) (Ok y) = Ok (record { easting = x; northing = y })

-- whole millimetres: each by the rounding, 3 places. Its refusal comes last.
unfoldable pub in_millimetres : Result Projected ℕ → Result Millimetres ℕ
in_millimetres (Err n) = Err n
in_millimetres (Ok p) = two (rounded_of p.easting 3) (rounded_of p.northing 3)

unfoldable pub cassini_millimetres_from_of : Origin → ℤ → ℤ → Result Millimetres ℕ
unfolding cassini_from_of in_millimetres
cassini_millimetres_from_of o latitude longitude = in_millimetres (cassini_from_of o latitude longitude)

unfoldable pub cassini_millimetres_of : OriginNumbers → ℤ → ℤ → Result Millimetres ℕ
unfolding cassini_of in_millimetres
cassini_millimetres_of o latitude longitude = in_millimetres (cassini_of o latitude longitude)
