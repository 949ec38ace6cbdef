-- What is promised of rounding, beside the definitions: of a fraction over every divisor and every rule for halves, and of an f64 over every number of decimal
-- places.
use Rattle.std.specs.Prelude.{◌≡◌, Bool, ℕ, ◌+◌, ◌*◌, ◌^◌, ◌≤◌, ◌<◌, ℤ, pos, neg_ℤ, nat_abs, ◌+ℤ◌, ◌-ℤ◌, ◌*ℤ◌, ◌≤ℤ◌, ◌<ℤ◌, Ok}
use Rattle.std.specs.Float.{fin}
use Rattle.std.specs.Float.Ieee.{up, down}
use Rattle.refusal.specs.Order.{pick}
use Rattle.rounding.specs.Nearest.{Near, Ties, Symmetric, Rounds, away, rounded}
use Rattle.rounding.specs.Decimals.{with_sign, rounded_of}

-- ---- a fraction: never more than a half off, at a half what the rule takes, and no other number; odd by a symmetric rule, monotone, and numerators less than L + 1 divisors apart round at most L + 1 apart
pub record Fractions (ties : Ties) (d : ℕ) : Type 0 where
  pub near : (z : ℤ) → nat_abs (pos 2 *ℤ (pos d *ℤ rounded ties z d -ℤ z)) ≤ d
  pub half : (z t : ℤ) → pos 2 *ℤ z ≡ (pos 2 *ℤ t +ℤ pos 1) *ℤ pos d → rounded ties z d ≡ pick (ties t) (t +ℤ pos 1) t
  pub only : (z r : ℤ) → Rounds ties z d r → rounded ties z d ≡ r
  pub odd : Symmetric ties → (z : ℤ) → rounded ties (neg_ℤ z) d ≡ neg_ℤ (rounded ties z d)
  pub mono : (x y : ℤ) → x <ℤ y → rounded ties x d ≤ℤ rounded ties y d
  pub apart : (L : ℕ) (x y : ℤ) → nat_abs (x -ℤ y) < (L + 1) * d → nat_abs (rounded ties x d -ℤ rounded ties y d) ≤ L + 1

-- ---- an f64, whose exact value is m * up e / down e, negative where s is true
pub record Decimals (s : Bool) (m : ℕ) (e : ℤ) (p : ℕ) : Type 0 where
  -- an answer is a nearest whole number of units at the places, a half away from zero
  pub answers : (z : ℤ) → rounded_of (fin s m e) p ≡ Ok z → Rounds away (with_sign s (m * up e * 10 ^ p)) (down e) z
  -- and there is no other: that one is answered
  pub only : (z : ℤ) → p ≤ 5 → m * up e < 10000000 * down e → Rounds away (with_sign s (m * up e * 10 ^ p)) (down e) z → rounded_of (fin s m e) p ≡ Ok z

-- what nearest means: no whole number q is nearer to z/d than r, in units of 1/d
abbrev pub Closest : Type 0
Closest = (d : ℕ) (z r q : ℤ) → Near z d r → nat_abs (pos d *ℤ r -ℤ z) ≤ nat_abs (pos d *ℤ q -ℤ z)

pub record Rounding : Type 0 where
  pub fractions : (ties : Ties) (d : ℕ) → 0 < d → Fractions ties d
  pub symmetric : Symmetric away
  pub decimals : (s : Bool) (m : ℕ) (e : ℤ) (p : ℕ) → Decimals s m e p
  pub closest : Closest
