-- Cartesian to geodetic: the circular's reverse without iteration, in the order of docs/ORDERS.md, section 4.
use Rattle.std.specs.Prelude.{ℕ, ℤ, pos, ◌+ℤ◌, Float, Result, Ok, Err}
use Rattle.std.specs.Float.Ieee.{neg}
use Rattle.refusal.specs.Numbers.{geodetic}
use Rattle.refusal.specs.Order.{first, unless}
use Rattle.rounding.specs.Decimals.{Rounded, rounded_of}
use Rattle.elementary.specs.Floats.{◌⊗◌, ◌⊘◌, ◌⊕◌, ◌⊖◌, #, whole}
use Rattle.elementary.specs.Series.{sine_of, cosine_of, arctan_small_of}
use Rattle.elementary.specs.Root.{root_of}
use Rattle.angle.specs.Units.{seconds}
use Rattle.angle.specs.Ranges.{position_tests, geodetic_tests}
use Rattle.angle.specs.Ellipsoids.{ellipsoid_of, prime_vertical}
use Rattle.angle.specs.declared.Ellipsoid.{Ellipsoid}
use Rattle.angle.specs.declared.Found.{Found}
use Rattle.angle.specs.declared.Angles.{Angles}

-- the tangent of the latitude, of P = √(X² + Y²) and Z in metres: tan u, cos u and sin u first. ε is e2/(1 - e2), and is not squared again.
unfoldable pub tangent_of : Ellipsoid → Float → Float → Float
tangent_of e P z =
    let b = e.a ⊗ (# 1 ⊖ e.f) in
    let ε = e.e2 ⊘ (# 1 ⊖ e.e2) in
    let t = (e.a ⊗ z) ⊘ (b ⊗ P) in
    let cu = # 1 ⊘ root_of (# 1 ⊕ t ⊗ t) in
    let su = t ⊗ cu in
    (z ⊕ (ε ⊗ b) ⊗ ((su ⊗ su) ⊗ su)) ⊘ (P ⊖ (e.e2 ⊗ e.a) ⊗ ((cu ⊗ cu) ⊗ cu))

-- the height at the latitude φ
unfoldable pub height_of : Ellipsoid → Float → Float → Float → Float
height_of e P z φ =
    let s = sine_of φ in
    let c = cosine_of φ in
    let v = e.e2 ⊗ (s ⊗ s) in
    (P ⊗ c ⊕ z ⊗ s) ⊖ (# 1 ⊖ v) ⊗ prime_vertical e s

-- latitude in seconds, longitude in seconds past 90 degrees, height in metres
unfoldable pub found_at : Ellipsoid → ℤ → ℤ → ℤ → Found
unfolding tangent_of height_of seconds
found_at e X Y Z =
    let y = whole Y ⊘ # 100000 in
    let z = whole Z ⊘ # 100000 in
    let q = neg (whole X) ⊘ whole Y in
    let r = root_of (# 1 ⊕ q ⊗ q) in
    let P = y ⊗ r in
    let φ = arctan_small_of (tangent_of e P z) in
    let w = # 2 ⊗ arctan_small_of (q ⊘ (# 1 ⊕ r)) in
    record { latitude = φ ⊗ seconds; longitude = w ⊗ seconds; height = height_of e P z φ }

-- a result in its ranges, or 12
unfoldable pub in_ranges : ℤ → ℤ → ℤ → Result Angles ℕ
in_ranges lat lon h = unless (first (geodetic_tests lat lon h)) Err (Ok (record { latitude = lat; longitude = lon; height = h }))

-- all three rounded, 90 degrees added to the longitude in whole units; what a rounding refuses is 12
unfoldable pub from_rounded : Rounded → Rounded → Rounded → Result Angles ℕ
unfolding in_ranges
from_rounded (Err n) w h = Err geodetic
from_rounded (Ok lat) (Err n) h = Err geodetic
from_rounded (Ok lat) (Ok w) (Err n) = Err geodetic
from_rounded (Ok lat) (Ok w) (Ok h) = in_ranges lat (w +ℤ pos 32400000000) h

-- each at 5 places
unfoldable pub in_angles : Found → Result Angles ℕ
unfolding from_rounded
in_angles p = from_rounded (rounded_of p.latitude 5) (rounded_of p.longitude 5) (rounded_of p.height 5)

-- refused: 2, 10, 12
unfoldable pub geodetic_units_of : ℤ → ℤ → ℤ → ℤ → Result Angles ℕ
unfolding ellipsoid_of found_at in_angles
geodetic_units_of code X Y Z = unless (first (position_tests code X Y Z)) Err (in_angles (found_at (ellipsoid_of code) X Y Z))
