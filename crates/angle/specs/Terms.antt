-- What the formulas take of an ellipsoid by itself, and of a latitude by itself: parts of specs/Ellipsoids.antt and specs/Cassini.antt (proofs/Arcs.antt).
use Rattle.std.specs.Prelude.{ℤ}
use Rattle.elementary.specs.Floats.{◌⊗◌, ◌⊘◌, ◌⊕◌, ◌⊖◌, #}
use Rattle.elementary.specs.Series.{sine_of, cosine_of}
use Rattle.angle.specs.Units.{radians}
use Rattle.angle.specs.Ellipsoids.{prime_vertical}
use Rattle.angle.specs.declared.Ellipsoid.{Ellipsoid}
use Rattle.angle.specs.declared.Terms.{Terms}
use Rattle.angle.specs.declared.Parallel.{Parallel}

-- the four factors of M, and the second eccentricity squared: e2 alone decides them
unfoldable pub terms_of : Ellipsoid → Terms
terms_of e =
    let e2 = e.e2 in
    let e4 = e2 ⊗ e2 in
    let e6 = e4 ⊗ e2 in
    record {
      m0 = ((# 1 ⊖ e2 ⊘ # 4) ⊖ # 3 ⊗ e4 ⊘ # 64) ⊖ # 5 ⊗ e6 ⊘ # 256;
      m2 = (# 3 ⊗ e2 ⊘ # 8 ⊕ # 3 ⊗ e4 ⊘ # 32) ⊕ # 45 ⊗ e6 ⊘ # 1024;
      m4 = # 15 ⊗ e4 ⊘ # 256 ⊕ # 45 ⊗ e6 ⊘ # 1024;
      m6 = # 35 ⊗ e6 ⊘ # 3072;
      second = e2 ⊘ (# 1 ⊖ e2);
    }

-- a latitude in radians, its sine and cosine, and ν there
unfoldable pub parallel_of : Ellipsoid → ℤ → Parallel
parallel_of e latitude =
    let φ = radians latitude in
    record { phi = φ; sine = sine_of φ; cosine = cosine_of φ; nu = prime_vertical e (sine_of φ) }
