-- The projection, made once for many points, in document 004's order and names; the order of operations is docs/ORDERS.md's. ln t₀, ln F and ln H stand for t₀, F and H,
-- of which only the logarithms are needed.
use Rattle.std.specs.Prelude.{ℕ, not, [], ◌∷◌, Float, Result, Ok, Err}
use Rattle.std.specs.Float.Ieee.{neg}
use Rattle.refusal.specs.Numbers.{range}
use Rattle.refusal.specs.Order.{◌gives◌, first, unless}
use Rattle.elementary.specs.Floats.{◌⊗◌, ◌⊘◌, ◌⊕◌, ◌⊖◌, #, whole}
use Rattle.elementary.specs.Series.{sine_of, cosine_of}
use Rattle.elementary.specs.Root.{root_of}
use Rattle.elementary.specs.Half.{arcsine_of}
use Rattle.elementary.specs.Hyperbolic.{arctan_series_of, artanh_small_of}
use Rattle.angle.specs.Units.{radians, metres}
use Rattle.angle.specs.Ellipsoids.{ellipsoid_of}
use Rattle.angle.specs.declared.Ellipsoid.{Ellipsoid}
use Rattle.oblique_mercator.specs.Parameters.{reduced, parameters_range}
use Rattle.oblique_mercator.specs.declared.Parameters.{Parameters}
use Rattle.oblique_mercator.specs.declared.Projection.{Projection}
use Rattle.oblique_mercator.specs.declared.making.Centre.{Centre}
use Rattle.oblique_mercator.specs.declared.making.Natural.{Natural}
use Rattle.oblique_mercator.specs.declared.making.Series.{Series}

-- -ln t, of e2 and the sine of a latitude
unfoldable pub isometric_of : Float → Float → Float
isometric_of e2 s = artanh_small_of s ⊖ arctan_series_of (neg (e2 ⊗ (s ⊗ s))) ⊗ (e2 ⊗ s)

-- at the centre, of its latitude φc in radians and the scale kc: A, B, D, G = √(D² - 1) and ln H
unfoldable pub centre_of : Ellipsoid → Float → Float → Centre
centre_of e φc kc =
    let e2 = e.e2 in
    let s = sine_of φc in
    let c = cosine_of φc in
    let c2 = c ⊗ c in
    let m = # 1 ⊖ e2 in
    let g = # 1 ⊖ e2 ⊗ (s ⊗ s) in
    let B = root_of (# 1 ⊕ (e2 ⊗ (c2 ⊗ c2)) ⊘ m) in
    let rm = root_of m in
    let rg = root_of g in
    let A = (((e.a ⊗ B) ⊗ kc) ⊗ rm) ⊘ g in
    let L₀ = isometric_of e2 s in
    let D = (B ⊗ rm) ⊘ (c ⊗ rg) in
    let G = (rm ⊗ (s ⊘ c)) ⊘ rg in
    let lnF = artanh_small_of (G ⊘ D) in
    record { a = A; b = B; d = D; g = G; ln_h = lnF ⊖ B ⊗ L₀ }

-- at the natural origin, of the azimuth α at the centre: sin γ₀, cos γ₀ and ω₀ = λc - λ₀
unfoldable pub natural_of : Centre → Float → Natural
natural_of c α =
    let sα = sine_of α in
    let cα = cosine_of α in
    let j = c.g ⊘ c.d in
    let i = (sα ⊘ cα) ⊗ j in
    let sinγ₀ = sα ⊘ c.d in
    let cosγ₀ = cα ⊗ root_of (# 1 ⊕ i ⊗ i) in
    record { sin = sinγ₀; cos = cosγ₀; omega = arcsine_of (c.g ⊗ (sinγ₀ ⊘ cosγ₀)) ⊘ c.b }

-- the coefficients of the latitude's series, from the conformal latitude
unfoldable pub series_of : Float → Series
series_of e2 =
    let e4 = e2 ⊗ e2 in
    let e6 = e4 ⊗ e2 in
    let e8 = e4 ⊗ e4 in
    record {
      k2 = ((e2 ⊘ # 2 ⊕ (# 5 ⊗ e4) ⊘ # 24) ⊕ e6 ⊘ # 12) ⊕ (# 13 ⊗ e8) ⊘ # 360;
      k4 = ((# 7 ⊗ e4) ⊘ # 48 ⊕ (# 29 ⊗ e6) ⊘ # 240) ⊕ (# 811 ⊗ e8) ⊘ # 11520;
      k6 = (# 7 ⊗ e6) ⊘ # 120 ⊕ (# 81 ⊗ e8) ⊘ # 1120;
      k8 = (# 4279 ⊗ e8) ⊘ # 161280;
    }

-- A/B, B/A and the rest; γc is the rectified angle
unfoldable pub projection_made : Parameters → Projection
projection_made p =
    let e = ellipsoid_of p.ellipsoid in
    let c = centre_of e (radians p.latitude) (whole p.scale ⊘ # 100000000000) in
    let o = natural_of c (radians (reduced p.azimuth)) in
    let γc = radians (reduced p.rectified) in
    let k = series_of e.e2 in
    record {
      centre = p.longitude;
      e2 = e.e2;
      b = c.b;
      ln_h = c.ln_h;
      sin_natural = o.sin;
      cos_natural = o.cos;
      omega = o.omega;
      sin_rectified = sine_of γc;
      cos_rectified = cosine_of γc;
      r = c.a ⊘ c.b;
      rho = c.b ⊘ c.a;
      false_easting = metres p.false_easting;
      false_northing = metres p.false_northing;
      k2 = k.k2;
      k4 = k.k4;
      k6 = k.k6;
      k8 = k.k8;
    }

-- refused: 2
unfoldable pub projection_of : Parameters → Result Projection ℕ
projection_of p = unless (first ((not (parameters_range p) gives range) ∷ [])) Err (Ok (projection_made p))
