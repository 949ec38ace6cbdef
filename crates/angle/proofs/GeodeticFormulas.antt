-- Cartesian to geodetic as data (`Formula`), of a, f, e2 and the whole X, Y, Z as f64s: every step of the definition in its order, each a variable from then on, so that
-- bounds over the whole area can be computed. `value` of each is the definition itself (`found-is`). Assumes nothing.
use mathlib.Core.Path.{◌≡◌}
use mathlib.Core.List.{List, [], ◌∷◌, ◌++◌}
use lib.IntN.{ℤ}
use lib.Ieee.{Float}
use Rattle.bounds.proofs.Formula.{Formula, var, lit, opp, plus, minus, times, over, square, call, steps, value}
use Rattle.elementary.specs.Floats.{whole}
use Rattle.elementary.proofs.Formulas.{n, sine_f, cosine_f, arctan_small_f, root_f, sine-is, cosine-is, arctan-small-is, root_is}
use Rattle.angle.specs.Ellipsoids.{prime_vertical}
use Rattle.angle.specs.Units.{seconds}
use Rattle.angle.specs.Geodetic.{tangent_of, height_of, found_at}
use Rattle.angle.proofs.Formulas.{radius_series}
use Rattle.angle.specs.declared.Ellipsoid.{Ellipsoid}

abbrev a' : Formula
a' = var 0

abbrev f' : Formula
f' = var 1

abbrev e2' : Formula
e2' = var 2

abbrev X' : Formula
X' = var 3

abbrev Y' : Formula
Y' = var 4

abbrev Z' : Formula
Z' = var 5

abbrev q' : Formula
q' = var 6

abbrev r' : Formula
r' = var 7

abbrev P' : Formula
P' = var 8

abbrev z' : Formula
z' = var 9

abbrev b' : Formula
b' = var 10

abbrev t' : Formula
t' = var 11

abbrev cu' : Formula
cu' = var 12

abbrev su' : Formula
su' = var 13

abbrev φ' : Formula
φ' = var 14

abbrev s' : Formula
s' = var 15

abbrev c' : Formula
c' = var 16

abbrev v' : Formula
v' = var 17

-- q and r
abbrev roots : List Formula
roots = over (opp X') Y' ∷ call root_f (plus (n 1) (square q')) ∷ []

-- P, z, b, t, cos u, sin u and φ
abbrev latitudes : List Formula
latitudes =
    times (over Y' (n 100000)) r'
    ∷ over Z' (n 100000)
    ∷ times a' (minus (n 1) f')
    ∷ over (times a' z') (times b' P')
    ∷ over (n 1) (call root_f (plus (n 1) (square t')))
    ∷ times t' cu'
    ∷ call arctan_small_f (over (plus z' (times (times (over e2' (minus (n 1) e2')) b') (times (square su') su'))) (minus P' (times (times e2' a') (times (square cu') cu'))))
    ∷ []

-- sin φ, cos φ and v
abbrev heights : List Formula
heights = call sine_f φ' ∷ call cosine_f φ' ∷ times e2' (square s') ∷ []

abbrev radius_f : Formula
radius_f = times a' (radius_series v')

abbrev pub latitude_f : Formula
latitude_f = steps (roots ++ latitudes) (times φ' (lit seconds))

abbrev pub longitude_f : Formula
longitude_f = steps roots (times (times (n 2) (call arctan_small_f (over q' (plus (n 1) r')))) (lit seconds))

abbrev pub height_f : Formula
height_f = steps (roots ++ (latitudes ++ heights)) (minus (plus (times P' c') (times z' s')) (times (minus (n 1) v') radius_f))

-- the variables
abbrev pub given : Ellipsoid → ℤ → ℤ → ℤ → List Float
given e X Y Z = e.a ∷ e.f ∷ e.e2 ∷ whole X ∷ whole Y ∷ whole Z ∷ []

pub found-is : (e : Ellipsoid) (X Y Z : ℤ)
    → found_at e X Y Z ≡ record { latitude = value (given e X Y Z) latitude_f; longitude = value (given e X Y Z) longitude_f; height = value (given e X Y Z) height_f }
unfolding value found_at tangent_of height_of prime_vertical
found-is e X Y Z = simp (root_is, arctan-small-is, sine-is, cosine-is)
