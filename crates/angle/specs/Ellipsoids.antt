-- The four ellipsoids, the prime vertical radius and the meridian's length.
use Rattle.std.specs.Prelude.{zero, suc, ◌^◌, List, [], ◌∷◌, ℤ, pos, negsuc, get_or, Float}
use Rattle.elementary.specs.Floats.{◌⊗◌, ◌⊘◌, ◌⊕◌, ◌⊖◌, near, #}
use Rattle.elementary.specs.Series.{sine_of}
use Rattle.angle.specs.declared.Ellipsoid.{Ellipsoid}
use Rattle.angle.specs.declared.Figure.{Figure}

-- a in metres, and 1/f
abbrev pub row : Float → Float → Figure
row a i = record { a = a; inverse_flattening = i }

-- codes 1 to 4: GRS80, WGS84, Everest 1830 Modified, Everest 1967
unfoldable pub table : List Figure
table =
    row (# 6378137) (near 298257222101 (10 ^ 9))
    ∷ row (# 6378137) (near 298257223563 (10 ^ 9))
    ∷ row (near 6377304063 1000) (near 3008017 10000)
    ∷ row (near 6377298556 1000) (near 3008017 10000)
    ∷ []

-- f = 1/(1/f); e2 = f (2 - f)
unfoldable pub shape : Figure → Ellipsoid
shape r = let f = # 1 ⊘ r.inverse_flattening in record { a = r.a; f = f; e2 = f ⊗ (# 2 ⊖ f) }

-- a code's row. A code that is not of the table is refused, so what is said of it here is used by nobody.
unfoldable pub figure_of : ℤ → Figure
unfolding table
figure_of (pos (suc n)) = get_or table n (row (# 0) (# 0))
figure_of (pos zero) = row (# 0) (# 0)
figure_of (negsuc n) = row (# 0) (# 0)

-- and its ellipsoid
unfoldable pub ellipsoid_of : ℤ → Ellipsoid
unfolding figure_of shape
ellipsoid_of z = shape (figure_of z)

-- ν = a (1 + q (1/2 + q (3/8 + q (5/16 + q 35/128)))), with q = e2 (sinφ sinφ)
unfoldable pub prime_vertical : Ellipsoid → Float → Float
prime_vertical e sinφ =
    let q = e.e2 ⊗ (sinφ ⊗ sinφ) in
    e.a ⊗ (# 1 ⊕ q ⊗ (near 1 2 ⊕ q ⊗ (near 3 8 ⊕ q ⊗ (near 5 16 ⊕ q ⊗ near 35 128))))

-- M, the meridian's length from the equator to the latitude φ, by the sines of twice, four and six times φ
unfoldable pub arc_with : Ellipsoid → Float → Float → Float → Float → Float
arc_with e φ sin2φ sin4φ sin6φ =
    let e2 = e.e2 in
    let e4 = e2 ⊗ e2 in
    let e6 = e4 ⊗ e2 in
    let m0 = ((# 1 ⊖ e2 ⊘ # 4) ⊖ # 3 ⊗ e4 ⊘ # 64) ⊖ # 5 ⊗ e6 ⊘ # 256 in
    let m2 = (# 3 ⊗ e2 ⊘ # 8 ⊕ # 3 ⊗ e4 ⊘ # 32) ⊕ # 45 ⊗ e6 ⊘ # 1024 in
    let m4 = # 15 ⊗ e4 ⊘ # 256 ⊕ # 45 ⊗ e6 ⊘ # 1024 in
    let m6 = # 35 ⊗ e6 ⊘ # 3072 in
    e.a ⊗ (((m0 ⊗ φ ⊖ m2 ⊗ sin2φ) ⊕ m4 ⊗ sin4φ) ⊖ m6 ⊗ sin6φ)

unfoldable pub meridian_arc : Ellipsoid → Float → Float
unfolding arc_with
meridian_arc e φ = arc_with e φ (sine_of (# 2 ⊗ φ)) (sine_of (# 4 ⊗ φ)) (sine_of (# 6 ⊗ φ))
