-- The way forward as data (`Formula`), of a, e2 and the whole numbers handed in as f64s: every step of the definitions in their order, each a variable from then on.
-- `value` of both is the definition itself (`plane-is`). Assumes nothing.
use mathlib.Core.Path.{◌≡◌}
use mathlib.Core.List.{List, [], ◌∷◌, ◌++◌}
use lib.IntN.{ℤ, ◌-ℤ◌}
use lib.Ieee.{Float}
use Rattle.bounds.proofs.Formula.{Formula, var, lit, opp, plus, minus, times, over, square, call, steps, value}
use Rattle.elementary.specs.Floats.{whole}
use Rattle.elementary.specs.Series.{arctan_table}
use Rattle.elementary.proofs.Formulas.{n, horner_f, sine_f, cosine_f, sinh_f, cosh_f, artanh_small_f, root_f, arctangent_f, artanh_f, arcsine_f}
use Rattle.elementary.proofs.Formulas.{sine-is, cosine-is, sinh-is, cosh-is, arctan-series-is, artanh-small-is, root_is, arctangent-is, artanh-is, arcsine-is}
use Rattle.angle.specs.Units.{k}
use Rattle.angle.proofs.UnitLaws.{radians-is, metres-is}
use Rattle.angle.specs.Ellipsoids.{ellipsoid_of}
use Rattle.oblique_mercator.specs.Parameters.{reduced}
use Rattle.oblique_mercator.specs.Projection.{isometric_of, centre_of, natural_of, projection_made}
use Rattle.oblique_mercator.specs.Forward.{plane_of, plane_at}
use Rattle.oblique_mercator.specs.declared.Parameters.{Parameters}

abbrev a' : Formula
a' = var 0

abbrev e2' : Formula
e2' = var 1

abbrev centre' : Formula
centre' = var 2

abbrev scale' : Formula
scale' = var 3

abbrev azimuth' : Formula
azimuth' = var 4

abbrev rectified' : Formula
rectified' = var 5

abbrev easting' : Formula
easting' = var 6

abbrev northing' : Formula
northing' = var 7

abbrev latitude' : Formula
latitude' = var 8

abbrev apart' : Formula
apart' = var 9

abbrev s' : Formula
s' = var 10

abbrev c' : Formula
c' = var 11

abbrev m' : Formula
m' = var 12

abbrev g' : Formula
g' = var 13

abbrev B' : Formula
B' = var 14

abbrev rm' : Formula
rm' = var 15

abbrev rg' : Formula
rg' = var 16

abbrev A' : Formula
A' = var 17

abbrev y₀' : Formula
y₀' = var 18

abbrev L₀' : Formula
L₀' = var 19

abbrev D' : Formula
D' = var 20

abbrev G' : Formula
G' = var 21

abbrev j' : Formula
j' = var 22

abbrev sα' : Formula
sα' = var 23

abbrev cα' : Formula
cα' = var 24

abbrev sinγ₀' : Formula
sinγ₀' = var 25

abbrev i' : Formula
i' = var 26

abbrev cosγ₀' : Formula
cosγ₀' = var 27

abbrev ln_h' : Formula
ln_h' = var 28

abbrev ω₀' : Formula
ω₀' = var 29

abbrev sinγc' : Formula
sinγc' = var 30

abbrev cosγc' : Formula
cosγc' = var 31

abbrev R' : Formula
R' = var 32

abbrev FE' : Formula
FE' = var 33

abbrev FN' : Formula
FN' = var 34

abbrev sφ' : Formula
sφ' = var 35

abbrev y' : Formula
y' = var 36

abbrev L' : Formula
L' = var 37

abbrev ln_q' : Formula
ln_q' = var 38

abbrev S' : Formula
S' = var 39

abbrev T' : Formula
T' = var 40

abbrev x' : Formula
x' = var 41

abbrev sx' : Formula
sx' = var 42

abbrev cx' : Formula
cx' = var 43

abbrev U' : Formula
U' = var 44

abbrev n' : Formula
n' = var 45

abbrev v' : Formula
v' = var 46

abbrev u' : Formula
u' = var 47

abbrev radians_f : Formula → Formula
radians_f z = times z (lit k)

-- s, c, m, g; B, rm, rg, A; L₀, D, G, j; the azimuth's sine and cosine, those of γ₀; ln H, ω₀; those of γc; R and the false origin
abbrev projection : List Formula
projection =
    call sine_f (radians_f centre')
    ∷ call cosine_f (radians_f centre')
    ∷ minus (n 1) e2'
    ∷ minus (n 1) (times e2' (square s'))
    ∷ call root_f (plus (n 1) (over (times e2' (square (square c'))) m'))
    ∷ call root_f m'
    ∷ call root_f g'
    ∷ over (times (times (times a' B') (over scale' (n 100000000000))) rm') g'
    ∷ opp (times e2' (square s'))
    ∷ minus (call artanh_small_f s') (times (horner_f y₀' arctan_table) (times e2' s'))
    ∷ over (times B' rm') (times c' rg')
    ∷ over (times rm' (over s' c')) rg'
    ∷ over G' D'
    ∷ call sine_f (radians_f azimuth')
    ∷ call cosine_f (radians_f azimuth')
    ∷ over sα' D'
    ∷ times (over sα' cα') j'
    ∷ times cα' (call root_f (plus (n 1) (square i')))
    ∷ minus (call artanh_small_f j') (times B' L₀')
    ∷ over (call arcsine_f (times G' (over sinγ₀' cosγ₀'))) B'
    ∷ call sine_f (radians_f rectified')
    ∷ call cosine_f (radians_f rectified')
    ∷ over A' B'
    ∷ over easting' (n 1000)
    ∷ over northing' (n 1000)
    ∷ []

-- the latitude's sine, L, ln Q; S, T; x, its sine and cosine; U, n; v, u
abbrev point : List Formula
point =
    call sine_f (radians_f latitude')
    ∷ opp (times e2' (square sφ'))
    ∷ minus (call artanh_small_f sφ') (times (horner_f y' arctan_table) (times e2' sφ'))
    ∷ plus ln_h' (times B' L')
    ∷ call sinh_f ln_q'
    ∷ call cosh_f ln_q'
    ∷ times B' (plus (radians_f apart') ω₀')
    ∷ call sine_f x'
    ∷ call cosine_f x'
    ∷ over (minus (times S' sinγ₀') (times sx' cosγ₀')) T'
    ∷ over (plus (times S' cosγ₀') (times sx' sinγ₀')) cx'
    ∷ opp (times R' (call artanh_f U'))
    ∷ times R' (call arctangent_f n')
    ∷ []

abbrev pub east_f : Formula
east_f = steps (projection ++ point) (plus (plus (times v' cosγc') (times u' sinγc')) FE')

abbrev pub north_f : Formula
north_f = steps (projection ++ point) (plus (minus (times u' cosγc') (times v' sinγc')) FN')

-- what is handed in
abbrev pub given : Parameters → ℤ → ℤ → List Float
given p latitude longitude =
    (ellipsoid_of p.ellipsoid).a
    ∷ (ellipsoid_of p.ellipsoid).e2
    ∷ whole p.latitude
    ∷ whole p.scale
    ∷ whole (reduced p.azimuth)
    ∷ whole (reduced p.rectified)
    ∷ whole p.false_easting
    ∷ whole p.false_northing
    ∷ whole latitude
    ∷ whole (longitude -ℤ p.longitude)
    ∷ []

pub plane-is : (p : Parameters) (latitude longitude : ℤ)
    → plane_at (projection_made p) latitude longitude ≡ record { easting = value (given p latitude longitude) east_f; northing = value (given p latitude longitude) north_f }
unfolding value plane_at plane_of projection_made centre_of natural_of isometric_of
plane-is p latitude longitude = simp (radians-is, metres-is, arctangent-is, artanh-is, arcsine-is, artanh-small-is, arctan-series-is, sinh-is, cosh-is, root_is, sine-is, cosine-is)
