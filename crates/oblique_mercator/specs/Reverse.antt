-- Easting and northing to latitude and longitude, in document 004's order and names, with γ₀, the angle at the natural origin, in U' and in the longitude.
use Rattle.std.specs.Prelude.{ℕ, Bool, not, ◌&&◌, List, [], ◌∷◌, ℤ, ◌+ℤ◌, Float, Result, Ok, Err}
use Rattle.std.specs.Float.Ieee.{neg, lt, le}
use Rattle.refusal.specs.Numbers.{range, geodetic}
use Rattle.refusal.specs.Numbers as numbers
use Rattle.refusal.specs.Order.{Test, ◌gives◌, pick, first, unless}
use Rattle.ranges.specs.Ranges.{latitude_range, longitude_range}
use Rattle.rounding.specs.Decimals.{Rounded, rounded_of}
use Rattle.elementary.specs.Floats.{◌⊗◌, ◌⊘◌, ◌⊕◌, ◌⊖◌, near, #}
use Rattle.elementary.specs.Series.{sine_of, cosine_of, arctan_small_of}
use Rattle.elementary.specs.Half.{arctangent_of}
use Rattle.elementary.specs.Hyperbolic.{sinh_of, cosh_of, artanh_small_of}
use Rattle.angle.specs.Units.{seconds}
use Rattle.oblique_mercator.specs.Projection.{projection_of}
use Rattle.oblique_mercator.specs.declared.Parameters.{Parameters}
use Rattle.oblique_mercator.specs.declared.Projection.{Projection}
use Rattle.oblique_mercator.specs.declared.Place.{Place}
use Rattle.oblique_mercator.specs.declared.from_plane.Turned.{Turned}
use Rattle.oblique_mercator.specs.declared.from_plane.Found.{Found}

-- below 10,000,000 m in size; a NaN is not
unfoldable pub in_plane : Float → Bool
in_plane x = lt (neg (# 10000000)) x && lt x (# 10000000)

-- θ = Bv'/A and μ = Bu'/A
unfoldable pub turned_of : Projection → Float → Float → Turned
turned_of p E N =
    let dE = E ⊖ p.false_easting in
    let dN = N ⊖ p.false_northing in
    let v = dE ⊗ p.cos_rectified ⊖ dN ⊗ p.sin_rectified in
    let u = dN ⊗ p.cos_rectified ⊕ dE ⊗ p.sin_rectified in
    record { theta = v ⊗ p.rho; mu = u ⊗ p.rho }

-- what lies past 1 is outside the ranges; past a right angle the arctangent would fold the far side of the earth into them
unfoldable pub gate_of : Turned → Bool
gate_of t = le (neg (# 1)) t.theta && le t.theta (# 1) && le (neg (# 1)) t.mu && le t.mu (# 1)

-- the latitude, of U': L' = -ln t', χ and its series
unfoldable pub latitude_of : Projection → Float → Float
latitude_of p U =
    let l = near 1 2 ⊗ ((artanh_small_of U ⊖ p.ln_h) ⊘ p.b) in
    let χ = # 2 ⊗ arctan_small_of (sinh_of l ⊘ cosh_of l) in
    (((χ ⊕ sine_of (# 2 ⊗ χ) ⊗ p.k2) ⊕ sine_of (# 4 ⊗ χ) ⊗ p.k4) ⊕ sine_of (# 6 ⊗ χ) ⊗ p.k6) ⊕ sine_of (# 8 ⊗ χ) ⊗ p.k8

-- latitude, and longitude less the centre's, in seconds. S' and T' are the halves of Q' - 1/Q' and Q' + 1/Q'; V' and W' sine and cosine of μ
unfoldable pub found_of : Projection → Turned → Found
found_of p t =
    let S = neg (sinh_of t.theta) in
    let T = cosh_of t.theta in
    let V₁ = sine_of t.mu in
    let W = cosine_of t.mu in
    let U = (V₁ ⊗ p.cos_natural ⊕ S ⊗ p.sin_natural) ⊘ T in
    let n = (S ⊗ p.cos_natural ⊖ V₁ ⊗ p.sin_natural) ⊘ W in
    let w = neg p.omega ⊖ arctangent_of n ⊘ p.b in
    record { latitude = latitude_of p U ⊗ seconds; difference = w ⊗ seconds }

-- a result in its ranges: 12
unfoldable pub in_ranges : ℤ → ℤ → Result Place ℕ
in_ranges latitude longitude =
    unless (first ((not (latitude_range latitude) gives geodetic) ∷ (not (longitude_range longitude) gives geodetic) ∷ [])) Err (Ok (record { latitude = latitude; longitude = longitude }))

-- both rounded, the longitude with the centre's; what a rounding refuses is 12
unfoldable pub from_rounded : ℤ → Rounded → Rounded → Result Place ℕ
from_rounded centre (Err n) w = Err geodetic
from_rounded centre (Ok latitude) (Err n) = Err geodetic
from_rounded centre (Ok latitude) (Ok w) = in_ranges latitude (w +ℤ centre)

-- each at 5 places
unfoldable pub in_units : ℤ → Found → Result Place ℕ
in_units centre f = from_rounded centre (rounded_of f.latitude 5) (rounded_of f.difference 5)

unfoldable pub reverse_at : Projection → Float → Float → Result Place ℕ
reverse_at p E N = let t = turned_of p E N in pick (gate_of t) (in_units p.centre (found_of p t)) (Err geodetic)

-- a point on a made projection, refused: 2 for a record that was not made here, 23, 12
abbrev pub centre_and_plane_tests : Projection → Float → Float → List Test
centre_and_plane_tests p E N = (not (longitude_range p.centre) gives range) ∷ (not (in_plane E && in_plane N) gives numbers.plane) ∷ []

unfoldable pub reverse_from_of : Projection → Float → Float → Result Place ℕ
reverse_from_of p E N = unless (first (centre_and_plane_tests p E N)) Err (reverse_at p E N)

-- on a projection as it is answered
abbrev pub found_on : Result Projection ℕ → Float → Float → Result Place ℕ
found_on (Err n) E N = Err n
found_on (Ok p) E N = reverse_from_of p E N

-- refused: 2, 23, 12
unfoldable pub reverse_of : Parameters → Float → Float → Result Place ℕ
reverse_of p E N = found_on (projection_of p) E N
