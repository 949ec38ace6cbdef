-- Latitude and longitude to easting and northing, in document 004's order and names. u is not offset: variant A's false origin is at the natural origin.
use Rattle.std.specs.Prelude.{ℕ, not, List, [], ◌∷◌, ℤ, ◌-ℤ◌, Float, Result, Ok, Err}
use Rattle.std.specs.Float.Ieee.{neg}
use Rattle.refusal.specs.Numbers.{range, geodetic}
use Rattle.refusal.specs.Order.{Test, ◌gives◌, first, unless}
use Rattle.ranges.specs.Ranges.{latitude_range, longitude_range}
use Rattle.elementary.specs.Floats.{◌⊗◌, ◌⊘◌, ◌⊕◌, ◌⊖◌}
use Rattle.elementary.specs.Series.{sine_of, cosine_of}
use Rattle.elementary.specs.Half.{arctangent_of}
use Rattle.elementary.specs.Hyperbolic.{sinh_of, cosh_of, artanh_of}
use Rattle.angle.specs.Units.{radians}
use Rattle.angle.specs.declared.Projected.{Projected}
use Rattle.oblique_mercator.specs.Projection.{isometric_of, projection_of}
use Rattle.oblique_mercator.specs.declared.Parameters.{Parameters}
use Rattle.oblique_mercator.specs.declared.Projection.{Projection}

-- of the latitude φ and the longitude less the centre's, in radians. S and T are the halves of Q - 1/Q and Q + 1/Q; V and W sine and cosine of B(λ - λ₀)
unfoldable pub plane_of : Projection → Float → Float → Projected
plane_of p φ difference =
    let L = isometric_of p.e2 (sine_of φ) in
    let lnQ = p.ln_h ⊕ p.b ⊗ L in
    let S = sinh_of lnQ in
    let T = cosh_of lnQ in
    let x = p.b ⊗ (difference ⊕ p.omega) in
    let V₁ = sine_of x in
    let W = cosine_of x in
    let U = (S ⊗ p.sin_natural ⊖ V₁ ⊗ p.cos_natural) ⊘ T in
    let n = (S ⊗ p.cos_natural ⊕ V₁ ⊗ p.sin_natural) ⊘ W in
    let v = neg (p.r ⊗ artanh_of U) in
    let u = p.r ⊗ arctangent_of n in
    let E = (v ⊗ p.cos_rectified ⊕ u ⊗ p.sin_rectified) ⊕ p.false_easting in
    let N = (u ⊗ p.cos_rectified ⊖ v ⊗ p.sin_rectified) ⊕ p.false_northing in
    record { easting = E; northing = N }

-- the difference of the longitudes is taken in whole numbers
unfoldable pub plane_at : Projection → ℤ → ℤ → Projected
plane_at p latitude longitude = plane_of p (radians latitude) (radians (longitude -ℤ p.centre))

-- a point on a made projection, refused: 2 for a record that was not made here, 12
abbrev pub centre_and_angles_tests : Projection → ℤ → ℤ → List Test
centre_and_angles_tests p latitude longitude =
    (not (longitude_range p.centre) gives range) ∷ (not (latitude_range latitude) gives geodetic) ∷ (not (longitude_range longitude) gives geodetic) ∷ []

unfoldable pub forward_from_of : Projection → ℤ → ℤ → Result Projected ℕ
forward_from_of p latitude longitude = unless (first (centre_and_angles_tests p latitude longitude)) Err (Ok (plane_at p latitude longitude))

-- on a projection as it is answered
abbrev pub laid_on : Result Projection ℕ → ℤ → ℤ → Result Projected ℕ
laid_on (Err n) latitude longitude = Err n
laid_on (Ok p) latitude longitude = forward_from_of p latitude longitude

-- refused: 2, 12
unfoldable pub forward_of : Parameters → ℤ → ℤ → Result Projected ℕ
forward_of p latitude longitude = laid_on (projection_of p) latitude longitude
