-- No NaN and no infinity: for every input that is not refused, every f64 answer is finite and within a stated bound. The bounds are below 10,000,000 m, so the
-- calls in whole units never refuse a point that the calls in metres answer. Assumes nothing.
use mathlib.Core.Path.{◌≡◌, refl, sym, ap, ◌∙◌, subst}
use mathlib.Core.List.{List, [], ◌∷◌}
use mathlib.Core.Bool.{false}
use Prim.Native.Nat.{ℕ, zero, suc, ◌-◌}
use native.Mathlib.Omega.{arith}
use borrow.Author.Tests.{not-false}
use lib.Dec.{T, lit≤, lit<}
use lib.IntN.{ℤ, pos, ◌-ℤ◌}
use lib.Ieee.{Float, binary64, round, neg, sub, div}
use lib.Ieee.Scale.{finite}
use Rattle.std.specs.Prelude.{Result, Ok, Err}
use Rattle.refusal.specs.Order.{first, unless}
use Rattle.rounding.specs.Decimals.{whole_of}
use Rattle.bounds.proofs.Among.{Ends, Among, neg-among}
use Rattle.bounds.proofs.Formula.{var, lit, plus, minus, times, over, All, none, also, value, tested, proved}
use Rattle.bounds.proofs.Zero.{wholes, Upto}
use Rattle.elementary.specs.Floats.{#, whole}
use Rattle.angle.specs.Units.{k, radians, metres}
use Rattle.angle.specs.Ranges.{cartesian_tests, origin_tests, angles_and_meridian_tests, cassini_tests}
use Rattle.elementary.specs.Series.{sine_of, cosine_of}
use Rattle.angle.specs.Ellipsoids.{ellipsoid_of, prime_vertical, meridian_arc}
use Rattle.angle.specs.Cartesian.{cartesian_at, cartesian_of, in_units, cartesian_units_of}
use Rattle.angle.specs.Cassini.{origin_made, cassini_with, cassini_at, cassini_of, in_millimetres, cassini_millimetres_of}
use Rattle.angle.specs.declared.Ellipsoid.{Ellipsoid}
use Rattle.angle.specs.declared.OriginNumbers.{OriginNumbers}
use Rattle.angle.specs.declared.Metres.{Metres}
use Rattle.angle.specs.declared.Projected.{Projected}
use Rattle.refusal.proofs.Orders.{Passed, passed}
use Rattle.elementary.proofs.Formulas.{sine_f, cosine_f, sine-among, cosine-among}
use Rattle.angle.proofs.Formulas.{east_f, north_f, axis_f, polar_f}
use Rattle.angle.proofs.Sizes.{from, size_up_to, eccentricity, Shaped, shaped, radians-among, parts-among, sine-latitude, cosine-latitude, radius-among, arc-among, metres-among}
use Rattle.ranges.proofs.Ranges.{natural}
use Rattle.angle.proofs.WholeAnswers.{Bound, whole-answer}
use Rattle.angle.proofs.Wholes.{natural-upto, upto, sub-pos}

-- what is not refused passed every test
given : {A : Type 0} (f : ℕ) (r : ℕ → A) (a : A) (P : A → Type 0) → ((i : ℕ) → P (r i)) → (f ≡ 0 → P a) → P (unless f r a)
given zero r a P R A = A refl
given (suc f) r a P R A = R (suc f)

-- ---- geodetic to Cartesian: |X| at most 3,700,000 m, |Y| at most 7,500,000 m, |Z| at most 1,000,000 m
abbrev pub CartesianBounded : Result Metres ℕ → Type 0
CartesianBounded (Ok m) = Among m.x (size_up_to 3700000 1) × Among m.y (size_up_to 7500000 1) × Among m.z (size_up_to 1000000 1)
CartesianBounded (Err i) = Unit {0}

-- a longitude past 90 degrees: up to 0.53
past-finite : T (finite (round binary64 false 10800000000 1))
unfolding round
past-finite = tt

past-test : T (tested (wholes 0 10800000000 ∷ []) (times (var 0) (lit k)) (size_up_to 53 100))
unfolding tested k
past-test = tt

sine-test : T (tested (size_up_to 53 100 ∷ []) sine_f (size_up_to 56 100))
unfolding tested neg div
sine-test = tt

cosine-test : T (tested (size_up_to 53 100 ∷ []) cosine_f (size_up_to 115 100))
unfolding tested neg div
cosine-test = tt

height-finite : T (finite (round binary64 false 900000000 1))
unfolding round
height-finite = tt

height-test : T (tested (wholes 0 900000000 ∷ []) (over (var 0) (lit (# 100000))) (size_up_to 9000 1))
unfolding tested
height-test = tt

-- e2, the radius, the height, the latitude's sine and cosine, the longitude's cosine and sine
abbrev space : List Ends
space = eccentricity ∷ size_up_to 6379000 1 ∷ size_up_to 9000 1 ∷ size_up_to 3 20 ∷ from 98 100 102 100 ∷ size_up_to 56 100 ∷ size_up_to 115 100 ∷ []

x-test : T (tested space (axis_f (var 5)) (size_up_to 3700000 1))
unfolding tested
x-test = tt

y-test : T (tested space (axis_f (var 6)) (size_up_to 7500000 1))
unfolding tested
y-test = tt

z-test : T (tested space polar_f (size_up_to 1000000 1))
unfolding tested
z-test = tt

module _ (code lat lon h : ℤ) (p : Passed (cartesian_tests code lat lon h)) where
  abbrev e : Ellipsoid
  e = ellipsoid_of code

  E : Shaped e
  E = shaped code (not-false _ p.0)

  latitude : Upto 2880000000 lat
  latitude = natural-upto (natural 0 lat 2880000000 (not-false _ p.1.0))

  abbrev w : Float
  w = radians (lon -ℤ pos 32400000000)

  past : Among w (size_up_to 53 100)
  past =
      let l = natural 35640000000 lon 43200000000 (not-false _ p.1.1.0) in
      let a = l.low in
      let b = l.high in
      let d : lon -ℤ pos 32400000000 ≡ pos (l.n - 32400000000) = ap (λ (z : ℤ). z -ℤ pos 32400000000) l.is ∙ sub-pos l.n 32400000000 (omega arith) in
      radians-among 10800000000 (size_up_to 53 100) (lon -ℤ pos 32400000000) past-finite past-test (subst (λ (z : ℤ). Upto 10800000000 z) (sym d) (omega arith))

  height : Among (div binary64 (whole h) (# 100000)) (size_up_to 9000 1)
  height = parts-among 900000000 100000 (size_up_to 9000 1) h height-finite height-test (upto 900000000 49999999 h 900000000 (lit≤ tt) (lit≤ tt) (not-false _ p.1.1.1.0))

  all : All (e.e2 ∷ prime_vertical e (sine_of (radians lat)) ∷ div binary64 (whole h) (# 100000) ∷ sine_of (radians lat) ∷ cosine_of (radians lat) ∷ neg (sine_of w) ∷ cosine_of w ∷ []) space
  all =
      also E.squared
      (also (radius-among e lat E latitude)
      (also height
      (also (sine-latitude e lat E latitude)
      (also (cosine-latitude e lat E latitude)
      (also (neg-among (sine-among (size_up_to 53 100) (size_up_to 56 100) sine-test past)) (also (cosine-among (size_up_to 53 100) (size_up_to 115 100) cosine-test past) none))))))

  position-bounded : CartesianBounded (Ok (cartesian_at e lat lon h))
  unfolding value cartesian_at
  position-bounded = (proved all (axis_f (var 5)) (size_up_to 3700000 1) x-test, proved all (axis_f (var 6)) (size_up_to 7500000 1) y-test, proved all polar_f (size_up_to 1000000 1) z-test)

pub cartesian-bounded : (code lat lon h : ℤ) → CartesianBounded (cartesian_of code lat lon h)
unfolding cartesian_of
cartesian-bounded code lat lon h =
    given (first (cartesian_tests code lat lon h)) Err (Ok (cartesian_at (ellipsoid_of code) lat lon h)) CartesianBounded (λ i. tt)
    (λ (z : first (cartesian_tests code lat lon h) ≡ 0). position-bounded code lat lon h (passed (cartesian_tests code lat lon h) tt z))

-- ---- Cassini: |E| at most 2,500,000 m, |N| at most 3,900,000 m
abbrev pub ProjectedBounded : Result Projected ℕ → Type 0
ProjectedBounded (Ok p) = Among p.easting (size_up_to 2500000 1) × Among p.northing (size_up_to 3900000 1)
ProjectedBounded (Err i) = Unit {0}

difference-finite : T (finite (round binary64 false 1440000000 1))
unfolding round
difference-finite = tt

difference-test : T (tested (wholes 0 1440000000 ∷ []) (times (var 0) (lit k)) (size_up_to 7 100))
unfolding tested k
difference-test = tt

arcs-test : T (tested (size_up_to 910000 1 ∷ size_up_to 910000 1 ∷ []) (minus (var 0) (var 1)) (size_up_to 1820000 1))
unfolding tested
arcs-test = tt

-- e2, the latitude's sine and cosine, the radius, the difference of longitudes, that of the arcs, and the false easting or northing
abbrev plane : List Ends
plane = eccentricity ∷ size_up_to 3 20 ∷ from 98 100 102 100 ∷ size_up_to 6379000 1 ∷ size_up_to 7 100 ∷ size_up_to 1820000 1 ∷ size_up_to 2000000 1 ∷ []

east-test : T (tested plane (plus (var 6) east_f) (size_up_to 2500000 1))
unfolding tested
east-test = tt

north-test : T (tested plane (plus (var 6) north_f) (size_up_to 3900000 1))
unfolding tested
north-test = tt

module _ (o : OriginNumbers) (lat lon : ℤ) (p : Passed (origin_tests o)) (q : Passed (angles_and_meridian_tests o.longitude lat lon)) where
  abbrev g : Ellipsoid
  g = ellipsoid_of o.ellipsoid

  G : Shaped g
  G = shaped o.ellipsoid (not-false _ p.0)

  abbrev φ : Float
  φ = radians lat

  latitude' : Upto 2880000000 lat
  latitude' = natural-upto (natural 0 lat 2880000000 (not-false _ q.0))

  difference : Among (radians (lon -ℤ o.longitude)) (size_up_to 7 100)
  difference =
      radians-among 1440000000 (size_up_to 7 100) (lon -ℤ o.longitude) difference-finite difference-test (upto 1440000000 1439999999 (lon -ℤ o.longitude) 1440000000 (lit≤ tt) (lit≤ tt) (not-false _ q.1.1.0))

  abbrev arcs : Float
  arcs = sub binary64 (meridian_arc g φ) (meridian_arc g (radians o.latitude))

  arcs-among : Among arcs (size_up_to 1820000 1)
  unfolding value
  arcs-among =
      proved (also (arc-among g lat G latitude') (also (arc-among g o.latitude G (natural-upto (natural 0 o.latitude 2880000000 (not-false _ p.1.1.1.0)))) none)) (minus (var 0) (var 1)) (size_up_to 1820000 1) arcs-test

  -- with a false easting or northing
  laid : (z : ℤ) → Upto 2000000000 z → All (g.e2 ∷ sine_of φ ∷ cosine_of φ ∷ prime_vertical g (sine_of φ) ∷ radians (lon -ℤ o.longitude) ∷ arcs ∷ metres z ∷ []) plane
  laid z h =
      also G.squared
      (also (sine-latitude g lat G latitude')
      (also (cosine-latitude g lat G latitude')
      (also (radius-among g lat G latitude') (also difference (also arcs-among (also (metres-among z h) none))))))

  cassini-bounded : ProjectedBounded (Ok (cassini_at (origin_made o) lat lon))
  unfolding value cassini_at cassini_with origin_made
  cassini-bounded = (
    proved (laid o.false_easting (upto 2000000000 1999999999 o.false_easting 2000000000 (lit≤ tt) (lit≤ tt) (not-false _ p.1.0))) (plus (var 6) east_f) (size_up_to 2500000 1) east-test,
    proved (laid o.false_northing (upto 2000000000 1999999999 o.false_northing 2000000000 (lit≤ tt) (lit≤ tt) (not-false _ p.1.1.0))) (plus (var 6) north_f) (size_up_to 3900000 1) north-test,
  )

pub projected-bounded : (o : OriginNumbers) (lat lon : ℤ) → ProjectedBounded (cassini_of o lat lon)
unfolding cassini_of
projected-bounded o lat lon =
    given (first (cassini_tests o lat lon)) Err (Ok (cassini_at (origin_made o) lat lon)) ProjectedBounded (λ i. tt)
    (λ (z : first (cassini_tests o lat lon) ≡ 0).
    let p : Passed (cassini_tests o lat lon) = passed (cassini_tests o lat lon) tt z in
    cassini-bounded o lat lon (p.0, (p.1.0, (p.1.1.0, (p.1.1.1.0, (p.1.1.1.1.0, tt))))) p.1.1.1.1.1)

-- ---- no rounding refuses
bound-x : Bound 3700000
unfolding round
bound-x = record { is = refl; unit = refl; low = lit< tt }

bound-y : Bound 7500000
unfolding round
bound-y = record { is = refl; unit = refl; low = lit< tt }

bound-z : Bound 1000000
unfolding round
bound-z = record { is = refl; unit = refl; low = lit< tt }

bound-e : Bound 2500000
unfolding round
bound-e = record { is = refl; unit = refl; low = lit< tt }

bound-n : Bound 3900000
unfolding round
bound-n = record { is = refl; unit = refl; low = lit< tt }

pub units-answered : (code lat lon h : ℤ) (m : Metres)
    → cartesian_of code lat lon h ≡ Ok m → cartesian_units_of code lat lon h ≡ Ok (record { x = whole_of m.x 5; y = whole_of m.y 5; z = whole_of m.z 5 })
unfolding cartesian_units_of in_units
units-answered code lat lon h m e =
    let b : CartesianBounded (Ok m) = subst CartesianBounded e (cartesian-bounded code lat lon h) in
    ap in_units e
    ∙ rw (whole-answer m.x 5 bound-x (lit≤ tt) b.0.most, whole-answer m.y 5 bound-y (lit≤ tt) b.1.most, whole-answer m.z 5 bound-z (lit≤ tt) b.2.most)

pub millimetres-answered : (o : OriginNumbers) (lat lon : ℤ) (p : Projected)
    → cassini_of o lat lon ≡ Ok p → cassini_millimetres_of o lat lon ≡ Ok (record { easting = whole_of p.easting 3; northing = whole_of p.northing 3 })
unfolding cassini_millimetres_of in_millimetres
millimetres-answered o lat lon p e =
    let b : ProjectedBounded (Ok p) = subst ProjectedBounded e (projected-bounded o lat lon) in
    ap in_millimetres e ∙ rw (whole-answer p.easting 3 bound-e (lit≤ tt) b.0.most, whole-answer p.northing 3 bound-n (lit≤ tt) b.1.most)
