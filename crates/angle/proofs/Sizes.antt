-- How large each quantity can be, for numbers in their ranges: every bound is one computed test (`proved`, by `tt`). Signs are told for the ellipsoids alone.
-- Assumes nothing.
use mathlib.Core.Path.{◌≡◌, sym, subst}
use mathlib.Core.Bool.{true, false}
use mathlib.Core.List.{[], ◌∷◌}
use Prim.Native.Nat.{ℕ, zero, suc, ◌≤◌, ◌<◌}
use native.Mathlib.Omega.{arith}
use lib.Dec.{T}
use lib.IntN.{ℤ, pos}
use lib.Ieee.{Float, binary64, round, neg, div, mul, sub}
use lib.Ieee.Scale.{finite}
use Rattle.bounds.proofs.Among.{Ends, Among, untold, told, exact_ends, closed, within}
use Rattle.bounds.proofs.Formula.{var, lit, times, over, none, also, value, tested, proved}
use Rattle.bounds.proofs.Zero.{wholes, Upto, of_int-among}
use Rattle.elementary.specs.Floats.{near, #, whole}
use Rattle.angle.specs.Units.{k, radians, metres}
use Rattle.elementary.specs.Series.{sine_of, cosine_of}
use Rattle.ranges.specs.Ranges.{ellipsoid_range}
use Rattle.angle.specs.Ellipsoids.{table, shape, figure_of, ellipsoid_of, prime_vertical, arc_with, meridian_arc}
use Rattle.angle.specs.declared.Ellipsoid.{Ellipsoid}
use Rattle.elementary.proofs.Formulas.{n, sine_f, cosine_f, sine-is, sine-among, cosine-among}
use Rattle.angle.proofs.Formulas.{prime_vertical_f, meridian_arc_f}
use Rattle.ranges.proofs.Ranges.{Natural, natural}

-- from a / b to c / d in size
abbrev pub from : ℕ → ℕ → ℕ → ℕ → Ends
from a b c d = record { lo = near a b; hi = near c d; side = untold }

-- at most c / d in size
abbrev pub size_up_to : ℕ → ℕ → Ends
size_up_to c d = from 0 1 c d

-- from a / b to c / d, not negative
abbrev pub above : ℕ → ℕ → ℕ → ℕ → Ends
above a b c d = record { lo = near a b; hi = near c d; side = told false }

-- ---- the ellipsoids
abbrev pub axis : Ends
axis = above 6377298 1 6378137 1

abbrev pub flattening : Ends
flattening = above 1 301 1 298

abbrev pub eccentricity : Ends
eccentricity = above 1 151 1 149

pub record Shaped (e : Ellipsoid) : Type 0 where
  pub long : Among e.a axis
  pub flat : Among e.f flattening
  pub squared : Among e.e2 eccentricity

-- a closed value that lies in J
abbrev Lies : Float → Ends → Type 0
Lies x J = T (within (exact_ends x) J)

-- each of the four rows
four : (P : ℕ → Type 0) → P 0 → P 1 → P 2 → P 3 → (i : ℕ) → i < 4 → P i
four P a b c d zero h = a
four P a b c d (suc zero) h = b
four P a b c d (suc (suc zero)) h = c
four P a b c d (suc (suc (suc zero))) h = d
four P a b c d (suc (suc (suc (suc i)))) h = absurd (past i h)
  where
    past : (i : ℕ) → suc (suc (suc (suc i))) < 4 → ⊥
    past i h = omega arith

long-test : (i : ℕ) → i < 4 → Lies (ellipsoid_of (pos (suc i))).a axis
unfolding within figure_of ellipsoid_of table shape round
long-test = four (λ (i : ℕ). Lies (ellipsoid_of (pos (suc i))).a axis) tt tt tt tt

flat-test : (i : ℕ) → i < 4 → Lies (ellipsoid_of (pos (suc i))).f flattening
unfolding within figure_of ellipsoid_of table shape round div
flat-test = four (λ (i : ℕ). Lies (ellipsoid_of (pos (suc i))).f flattening) tt tt tt tt

squared-test : (i : ℕ) → i < 4 → Lies (ellipsoid_of (pos (suc i))).e2 eccentricity
unfolding within figure_of ellipsoid_of table shape round mul div sub
squared-test = four (λ (i : ℕ). Lies (ellipsoid_of (pos (suc i))).e2 eccentricity) tt tt tt tt

pub shaped : (code : ℤ) → ellipsoid_range code ≡ true → Shaped (ellipsoid_of code)
shaped code h = go (natural 1 code 4 h)
  where
    row : (i : ℕ) → 1 ≤ i → i ≤ 4 → Shaped (ellipsoid_of (pos i))
    row zero l k = absurd (never l)
      where
        never : 1 ≤ 0 → ⊥
        never l = omega arith
    row (suc i) l k =
        let e = ellipsoid_of (pos (suc i)) in
        let m : i < 4 = omega arith in
        record { long = closed e.a axis (long-test i m); flat = closed e.f flattening (flat-test i m); squared = closed e.e2 eccentricity (squared-test i m) }

    go : Natural 1 code 4 → Shaped (ellipsoid_of code)
    go p = subst (λ (z : ℤ). Shaped (ellipsoid_of z)) (sym p.is) (row p.n p.low p.high)

-- ---- whole numbers handed in
-- units of 0.00001" in radians
pub radians-among : (b : ℕ) (J : Ends) (z : ℤ)
    → T (finite (round binary64 false b 1)) → T (tested (wholes 0 b ∷ []) (times (var 0) (lit k)) J) → Upto b z → Among (radians z) J
unfolding value radians
radians-among b J z f t h = proved (also (of_int-among b z h f) none) (times (var 0) (lit k)) J t

-- a number of parts
pub parts-among : (b d : ℕ) (J : Ends) (z : ℤ)
    → T (finite (round binary64 false b 1)) → T (tested (wholes 0 b ∷ []) (over (var 0) (n d)) J) → Upto b z → Among (div binary64 (whole z) (# d)) J
unfolding value
parts-among b d J z f t h = proved (also (of_int-among b z h f) none) (over (var 0) (n d)) J t

-- ---- a latitude of the range: up to 0.14, so its cosine is not near 0
latitude-finite : T (finite (round binary64 false 2880000000 1))
unfolding round
latitude-finite = tt

latitude-test : T (tested (wholes 0 2880000000 ∷ []) (times (var 0) (lit k)) (size_up_to 7 50))
unfolding tested k
latitude-test = tt

sine-test : T (tested (size_up_to 7 50 ∷ []) sine_f (size_up_to 3 20))
unfolding tested neg div
sine-test = tt

cosine-test : T (tested (size_up_to 7 50 ∷ []) cosine_f (from 98 100 102 100))
unfolding tested neg div
cosine-test = tt

radius-test : T (tested (axis ∷ eccentricity ∷ size_up_to 3 20 ∷ []) (prime_vertical_f (var 0) (var 1) (var 2)) (size_up_to 6379000 1))
unfolding tested
radius-test = tt

arc-test : T (tested (axis ∷ eccentricity ∷ size_up_to 7 50 ∷ []) (meridian_arc_f (var 0) (var 1) (var 2)) (size_up_to 910000 1))
unfolding tested neg div
arc-test = tt

module _ (e : Ellipsoid) (z : ℤ) (E : Shaped e) (Z : Upto 2880000000 z) where
  pub latitude-among : Among (radians z) (size_up_to 7 50)
  latitude-among = radians-among 2880000000 (size_up_to 7 50) z latitude-finite latitude-test Z

  pub sine-latitude : Among (sine_of (radians z)) (size_up_to 3 20)
  sine-latitude = sine-among (size_up_to 7 50) (size_up_to 3 20) sine-test latitude-among

  pub cosine-latitude : Among (cosine_of (radians z)) (from 98 100 102 100)
  cosine-latitude = cosine-among (size_up_to 7 50) (from 98 100 102 100) cosine-test latitude-among

  pub radius-among : Among (prime_vertical e (sine_of (radians z))) (size_up_to 6379000 1)
  unfolding value prime_vertical
  radius-among = proved (also E.long (also E.squared (also sine-latitude none))) (prime_vertical_f (var 0) (var 1) (var 2)) (size_up_to 6379000 1) radius-test

  pub arc-among : Among (meridian_arc e (radians z)) (size_up_to 910000 1)
  unfolding value meridian_arc arc_with
  arc-among = simp sine-is (proved (also E.long (also E.squared (also latitude-among none))) (meridian_arc_f (var 0) (var 1) (var 2)) (size_up_to 910000 1) arc-test)

-- ---- a false easting or northing: within 2,000,000 m
offset-finite : T (finite (round binary64 false 2000000000 1))
unfolding round
offset-finite = tt

offset-test : T (tested (wholes 0 2000000000 ∷ []) (over (var 0) (n 1000)) (size_up_to 2000000 1))
unfolding tested
offset-test = tt

pub metres-among : (z : ℤ) → Upto 2000000000 z → Among (metres z) (size_up_to 2000000 1)
unfolding metres
metres-among z h = parts-among 2000000000 1000 (size_up_to 2000000 1) z offset-finite offset-test h
