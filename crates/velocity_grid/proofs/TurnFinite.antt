-- No NaN and no infinity in the turn: for every accepted point and parts within 2,500 every f64 is finite, X, Y and Z are at most 4,330 in size, and so is
-- what they are rounded to. Each is one computed test over all the ranges at once. Assumes nothing.
use mathlib.Core.Path.{◌≡◌, refl, sym, ap, ◌∙◌, subst}
use mathlib.Core.Bool.{true, false}
use mathlib.Core.List.{List, [], ◌∷◌}
use Prim.Native.Nat.{ℕ, ◌-◌, ◌*◌, ◌≤◌}
use native.Mathlib.Omega.{arith}
use lib.Dec.{T, lit≤, lit<}
use lib.IntN.{ℤ, pos, nat_abs, ◌-ℤ◌}
use lib.Ieee.{Float, nan, inf, fin, binary64, round, neg, div, up, down}
use lib.Ieee.Scale.{finite}
use lib.Ieee.Positive.{num, den}
use Rattle.ranges.specs.Ranges.{latitude_range, longitude_range}
use Rattle.ranges.proofs.Ranges.{natural}
use Rattle.rounding.specs.Decimals.{whole_of}
use Rattle.rounding.proofs.Places.{whole-small}
use Rattle.bounds.proofs.Among.{Ends, Among, neg-among}
use Rattle.bounds.proofs.Formula.{Formula, var, lit, opp, plus, minus, times, All, none, also, value, tested, proved, Fine, every}
use Rattle.bounds.proofs.Size.{Under}
use Rattle.bounds.proofs.Zero.{wholes, Upto, of_int-among}
use Rattle.elementary.specs.Floats.{#, whole}
use Rattle.elementary.specs.Series.{sine_of, cosine_of}
use Rattle.elementary.proofs.Formulas.{sine_f, cosine_f, sine-among, cosine-among}
use Rattle.angle.specs.Units.{k, radians}
use Rattle.angle.proofs.UnitLaws.{k-is}
use Rattle.angle.proofs.WholeAnswers.{Bound, whole-answer}
use Rattle.angle.proofs.Sizes.{size_up_to, radians-among}
use Rattle.angle.proofs.Wholes.{natural-upto, sub-pos}
use Rattle.velocity_grid.specs.AtPoint.{PartsOk}
use Rattle.velocity_grid.specs.Turn.{turned_by, turned_at, in_units}
use Rattle.velocity_grid.specs.Bounded as statements
use Rattle.line.specs.declared.VelocityParts.{VelocityParts}
use Rattle.velocity_grid.proofs.AtPoint.{sized-upto}

-- ---- the latitude's and the longitude's sine and cosine, and the three parts
abbrev x_f : Formula
x_f = plus (minus (times (opp (var 2)) (var 4)) (times (times (var 0) (var 3)) (var 5))) (times (times (var 1) (var 3)) (var 6))

abbrev y_f : Formula
y_f = plus (minus (times (var 3) (var 4)) (times (times (var 0) (var 2)) (var 5))) (times (times (var 1) (var 2)) (var 6))

abbrev z_f : Formula
z_f = plus (times (var 1) (var 5)) (times (var 0) (var 6))

abbrev part : Ends
part = wholes 0 2500

abbrev space : List Ends
space = size_up_to 14 100 ∷ size_up_to 1 1 ∷ size_up_to 1 1 ∷ size_up_to 53 100 ∷ part ∷ part ∷ part ∷ []

-- ---- the whole numbers as f64s
latitude-finite : T (finite (round binary64 false 2880000000 1))
unfolding round
latitude-finite = tt

past-finite : T (finite (round binary64 false 10800000000 1))
unfolding round
past-finite = tt

part-finite : T (finite (round binary64 false 2500 1))
unfolding round
part-finite = tt

-- ---- the tests: the angles, up to 0.14 and 0.53, their sines and cosines, and X, Y and Z
record Tests : Type 0 where
  latitude : T (tested (wholes 0 2880000000 ∷ []) (times (var 0) (lit k)) (size_up_to 14 100))
  past : T (tested (wholes 0 10800000000 ∷ []) (times (var 0) (lit k)) (size_up_to 53 100))
  small-sine : T (tested (size_up_to 14 100 ∷ []) sine_f (size_up_to 14 100))
  small-cosine : T (tested (size_up_to 14 100 ∷ []) cosine_f (size_up_to 1 1))
  large-sine : T (tested (size_up_to 53 100 ∷ []) sine_f (size_up_to 53 100))
  large-cosine : T (tested (size_up_to 53 100 ∷ []) cosine_f (size_up_to 1 1))
  x : T (tested space x_f (size_up_to 4330 1))
  y : T (tested space y_f (size_up_to 4330 1))
  z : T (tested space z_f (size_up_to 4330 1))

tests : Tests
unfolding tested round neg div
tests = record { latitude = rw k-is tt; past = rw k-is tt; small-sine = tt; small-cosine = tt; large-sine = tt; large-cosine = tt; x = tt; y = tt; z = tt }

module _ (p : VelocityParts) (lat lon : ℤ) (o : PartsOk p) (a : latitude_range lat ≡ true) (b : longitude_range lon ≡ true) where
  abbrev φ : Float
  φ = radians lat

  abbrev w : Float
  w = radians (lon -ℤ pos 32400000000)

  latitude : Among φ (size_up_to 14 100)
  latitude = radians-among 2880000000 (size_up_to 14 100) lat latitude-finite tests.latitude (natural-upto (natural 0 lat 2880000000 a))

  past : Among w (size_up_to 53 100)
  past =
      let l = natural 35640000000 lon 43200000000 b in
      let low = l.low in
      let high = l.high in
      let d : lon -ℤ pos 32400000000 ≡ pos (l.n - 32400000000) = ap (λ (z : ℤ). z -ℤ pos 32400000000) l.is ∙ sub-pos l.n 32400000000 (omega arith) in
      radians-among 10800000000 (size_up_to 53 100) (lon -ℤ pos 32400000000) past-finite tests.past (subst (λ (z : ℤ). Upto 10800000000 z) (sym d) (omega arith))

  among : (z : ℤ) → nat_abs z ≤ 2500 → Among (whole z) part
  among z h = of_int-among 2500 z (sized-upto 2500 z h) part-finite

  abbrev given : List Float
  given = sine_of φ ∷ cosine_of φ ∷ cosine_of w ∷ neg (sine_of w) ∷ whole p.east ∷ whole p.north ∷ whole p.up ∷ []

  all : All given space
  all =
      also (sine-among (size_up_to 14 100) (size_up_to 14 100) tests.small-sine latitude)
      (also (cosine-among (size_up_to 14 100) (size_up_to 1 1) tests.small-cosine latitude)
      (also (cosine-among (size_up_to 53 100) (size_up_to 1 1) tests.large-cosine past)
      (also (neg-among (sine-among (size_up_to 53 100) (size_up_to 53 100) tests.large-sine past))
      (also (among p.east o.east) (also (among p.north o.north) (also (among p.up o.up) none))))))

  -- every f64 of the three rows is finite
  pub all-finite : Fine given x_f × Fine given y_f × Fine given z_f
  all-finite = (every all x_f (size_up_to 4330 1) tests.x, every all y_f (size_up_to 4330 1) tests.y, every all z_f (size_up_to 4330 1) tests.z)

  bounded-x : Among (turned_at p lat lon).x (size_up_to 4330 1)
  unfolding value turned_at turned_by
  bounded-x = proved all x_f (size_up_to 4330 1) tests.x

  bounded-y : Among (turned_at p lat lon).y (size_up_to 4330 1)
  unfolding value turned_at turned_by
  bounded-y = proved all y_f (size_up_to 4330 1) tests.y

  bounded-z : Among (turned_at p lat lon).z (size_up_to 4330 1)
  unfolding value turned_at turned_by
  bounded-z = proved all z_f (size_up_to 4330 1) tests.z

-- ---- rounded at 0 places
bound : Bound 4330
unfolding round
bound = record { is = refl; unit = refl; low = lit< tt }

whole-size : (x y : Float) → num y ≡ 4330 → den y ≡ 1 → Under x y → nat_abs (whole_of x 0) ≤ 4330
whole-size nan y N D h = absurd h.small
whole-size (inf s) y N D h = absurd h.small
whole-size (fin s m e) y N D h =
    let c : m * up e * 1 ≤ 4330 * down e = subst (λ (i : ℕ). m * up e * i ≤ 4330 * down e) D (subst (λ (i : ℕ). m * up e * den y ≤ i * down e) N h.cross) in
    whole-small s m e 0 4330 c

pub bounded : statements.Bounded
unfolding in_units
bounded p lat lon o a b =
    let x = (bounded-x p lat lon o a b).most in
    let y = (bounded-y p lat lon o a b).most in
    let z = (bounded-z p lat lon o a b).most in
    let t = turned_at p lat lon in
    rw (whole-answer t.x 0 bound (lit≤ tt) x, whole-answer t.y 0 bound (lit≤ tt) y, whole-answer t.z 0 bound (lit≤ tt) z)
    (whole-size t.x (# 4330) bound.is bound.unit x, whole-size t.y (# 4330) bound.is bound.unit y, whole-size t.z (# 4330) bound.is bound.unit z)
