-- The exact case: every accepted origin goes to exactly its false easting and northing, as f64. There the difference of longitudes and that of the arcs are
-- zeros, so what is added to the false easting and northing is a zero, by a computed bound; and x plus a zero is x, unless x is -0. Assumes nothing.
use mathlib.Core.Path.{◌≡◌, refl, ap, ap₂, ◌∙◌}
use mathlib.Core.Logic.{◌⊎◌, inl, inr}
use mathlib.Core.List.{List, [], ◌∷◌}
use mathlib.Core.Bool.{Bool, true, false, not}
use Prim.Native.Nat.{suc, ◌<◌, zero-le}
use native.Mathlib.Nat.{zero-lt-suc}
use borrow.Author.Tests.{not-false}
use lib.Dec.{T, lit<, lit≤}
use lib.IntN.{ℤ, pos, negsuc, +ℤ_invr}
use lib.Ieee.{Float, binary64, unlike, round, add, mul, sub, div, of_int, fits}
use lib.Ieee.Fits.{div-fits}
use lib.Ieee.Scale.{finite}
use lib.Ieee.Positive.{num}
use Rattle.bounds.proofs.Size.{sign, sign-round, div-sign}
use Rattle.bounds.proofs.Among.{Ends, Among, exact_ends, is_finite, num-above, closed, within}
use Rattle.bounds.proofs.Formula.{var, over, All, none, also, value, tested, proved}
use Rattle.bounds.proofs.Zero.{wholes, whole-among, nought, Upto, sub_self, add-zero-is}
use Rattle.std.specs.Prelude.{Ok, Err}
use Rattle.elementary.specs.Floats.{near, #}
use Rattle.angle.specs.Units.{k, radians, metres}
use Rattle.angle.specs.Ranges.{nearby, origin_tests, angles_and_meridian_tests, cassini_tests, origin_fault}
use Rattle.elementary.specs.Series.{sine_of, cosine_of}
use Rattle.angle.specs.Ellipsoids.{ellipsoid_of, prime_vertical, meridian_arc}
use Rattle.angle.specs.Cassini.{origin_made, cassini_with, cassini_at, cassini_of}
use Rattle.angle.specs.declared.OriginNumbers.{OriginNumbers}
use Rattle.angle.specs.declared.Projected.{Projected}
use Rattle.refusal.proofs.Orders as orders
use Rattle.refusal.proofs.Orders.{Passed, passed, both, unless-none}
use Rattle.elementary.proofs.Formulas.{n}
use Rattle.angle.proofs.Formulas.{east_f, north_f}
use Rattle.angle.proofs.Sizes.{from, size_up_to, eccentricity, Shaped, shaped, sine-latitude, cosine-latitude, radius-among, arc-among, metres-among}
use Rattle.ranges.specs.Ranges.{up_to}
use Rattle.ranges.proofs.Ranges.{natural, up-to-holds}
use Rattle.angle.proofs.Wholes.{natural-upto, upto}

-- ---- what is added is a zero
abbrev ends : List Ends
ends = eccentricity ∷ size_up_to 3 20 ∷ from 98 100 102 100 ∷ size_up_to 6379000 1 ∷ nought ∷ nought ∷ []

east-test : T (tested ends east_f nought)
unfolding tested
east-test = tt

north-test : T (tested ends north_f nought)
unfolding tested
north-test = tt

zero_test : T (within (exact_ends (radians (pos 0))) nought)
unfolding within radians k mul of_int round
zero_test = tt

-- ---- a false easting or northing is no -0
thousand-finite : T (finite (# 1000))
unfolding round
thousand-finite = tt

thousand-pos : 0 < num (# 1000)
unfolding round
thousand-pos = lit< tt

thousand-sign : sign (# 1000) ≡ false
unfolding round
thousand-sign = refl

small_pos : 0 < num (near 1 1000)
unfolding round
small_pos = lit< tt

billions-finite : T (finite (round binary64 false 2000000000 1))
unfolding round
billions-finite = tt

below-test : T (tested (wholes 1 2000000000 ∷ []) (over (var 0) (n 1000)) (from 1 1000 2000000 1))
unfolding tested
below-test = tt

metres-sign : (z : ℤ) → Upto 2000000000 z → (0 < num (metres z)) ⊎ (sign (metres z) ≡ false)
unfolding value metres of_int
metres-sign (pos i) h =
    let x : Float = round binary64 false i 1 in
    inr (div-sign binary64 x (# 1000) (is_finite (whole-among false i 0 2000000000 zero-le h billions-finite)) thousand-finite thousand-pos
    ∙ ap (λ (t : Bool). unlike t (sign (# 1000))) (sign-round binary64 false i 1) ∙ ap (λ (t : Bool). unlike false t) thousand-sign)
metres-sign (negsuc i) h =
    let I : Among (round binary64 true (suc i) 1) (wholes 1 2000000000) = whole-among true (suc i) 1 2000000000 (zero-lt-suc i) h billions-finite in
    let J : Among (div binary64 (round binary64 true (suc i) 1) (# 1000)) (from 1 1000 2000000 1) = proved (also I none) (over (var 0) (n 1000)) (from 1 1000 2000000 1) below-test in
    inl (num-above J.least small_pos)

metres-fits : (z : ℤ) → T (fits binary64 (metres z))
unfolding metres
metres-fits z = div-fits binary64 (of_int binary64 z) (# 1000)

-- x plus a zero is x, for a false easting or northing
kept : (z : ℤ) (x : Float) → Upto 2000000000 z → Among x nought → add binary64 (metres z) x ≡ metres z
kept z x h X = add-zero-is (metres z) x (metres-fits z) (is_finite (metres-among z h)) (metres-sign z h) X

-- ---- the formulas at the origin
abbrev laid_at : Float → Float → Projected
laid_at e n = record { easting = e; northing = n }

abbrev false_origin : OriginNumbers → Projected
false_origin o = laid_at (metres o.false_easting) (metres o.false_northing)

module _ (o : OriginNumbers) (p : Passed (origin_tests o)) where
  lat : Upto 2880000000 o.latitude
  lat = natural-upto (natural 0 o.latitude 2880000000 (not-false _ p.1.1.1.0))

  E : Shaped (ellipsoid_of o.ellipsoid)
  E = shaped o.ellipsoid (not-false _ p.0)

  abbrev e : Float
  e = (ellipsoid_of o.ellipsoid).e2

  abbrev s : Float
  s = sine_of (radians o.latitude)

  abbrev c : Float
  c = cosine_of (radians o.latitude)

  abbrev ν : Float
  ν = prime_vertical (ellipsoid_of o.ellipsoid) s

  abbrev M : Float
  M = meridian_arc (ellipsoid_of o.ellipsoid) (radians o.latitude)

  all : All (e ∷ s ∷ c ∷ ν ∷ radians (pos 0) ∷ sub binary64 M M ∷ []) ends
  all =
      also E.squared
      (also (sine-latitude (ellipsoid_of o.ellipsoid) o.latitude E lat)
      (also (cosine-latitude (ellipsoid_of o.ellipsoid) o.latitude E lat)
      (also (radius-among (ellipsoid_of o.ellipsoid) o.latitude E lat)
      (also (closed (radians (pos 0)) nought zero_test) (also (sub_self M (is_finite (arc-among (ellipsoid_of o.ellipsoid) o.latitude E lat))) none)))))

  laid : cassini_with (origin_made o) s c ν M (radians (pos 0)) ≡ false_origin o
  unfolding value cassini_with origin_made
  laid =
      ap₂ laid_at
      (kept o.false_easting (value (e ∷ s ∷ c ∷ ν ∷ radians (pos 0) ∷ sub binary64 M M ∷ []) east_f) (upto 2000000000 1999999999 o.false_easting 2000000000 (lit≤ tt) (lit≤ tt) (not-false _ p.1.0)) (proved all east_f nought east-test))
      (kept o.false_northing (value (e ∷ s ∷ c ∷ ν ∷ radians (pos 0) ∷ sub binary64 M M ∷ []) north_f) (upto 2000000000 1999999999 o.false_northing 2000000000 (lit≤ tt) (lit≤ tt) (not-false _ p.1.1.0)) (proved all north_f nought north-test))

  at : cassini_at (origin_made o) o.latitude o.longitude ≡ false_origin o
  unfolding cassini_at origin_made
  at = ap (λ (z : ℤ). cassini_with (origin_made o) s c ν M (radians z)) (+ℤ_invr o.longitude) ∙ laid

-- a longitude is not far from itself
near-itself : (z : ℤ) → nearby z z ≡ true
near-itself z = ap (up_to 1440000000) (+ℤ_invr z) ∙ up-to-holds 1440000000 (pos 0) (lit≤ tt)

-- ---- the theorem
pub at-origin : (o : OriginNumbers) → origin_fault o ≡ 0 → cassini_of o o.latitude o.longitude ≡ Ok (record { easting = metres o.false_easting; northing = metres o.false_northing })
unfolding origin_fault cassini_of
at-origin o h =
    let p : Passed (origin_tests o) = passed (origin_tests o) tt h in
    let q : Passed (angles_and_meridian_tests o.longitude o.latitude o.longitude) = (p.1.1.1.0, (p.1.1.1.1.0, (ap not (near-itself o.longitude), tt))) in
    unless-none _ Err (Ok (cassini_at (origin_made o) o.latitude o.longitude)) (orders.none (cassini_tests o o.latitude o.longitude) (both (origin_tests o) (angles_and_meridian_tests o.longitude o.latitude o.longitude) p q))
    ∙ ap Ok (at o p)
