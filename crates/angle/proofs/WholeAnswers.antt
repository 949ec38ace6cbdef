-- No rounding refuses an f64 whose bound is below 10,000,000. Assumes nothing.
use mathlib.Core.Path.{◌≡◌, subst}
use mathlib.Core.Bool.{false}
use Prim.Native.Nat.{ℕ, ◌+◌, ◌*◌, ◌≤◌, ◌<◌}
use native.Mathlib.Nat.{mul-le-mul_right}
use native.Mathlib.Omega.{arith}
use lib.Ieee.{Float, nan, inf, fin, up, down}
use lib.Ieee.Fits.{down_pos}
use lib.Ieee.Positive.{num, den}
use Rattle.std.specs.Prelude.{Ok}
use Rattle.rounding.specs.Decimals.{too_large, whole_of, rounded_of}
use Rattle.rounding.proofs.Places.{few, not-large}
use Rattle.bounds.proofs.Size.{Under}
use Rattle.elementary.specs.Floats.{#}

-- y is the whole number b, as a computed fact
under-large : (b : ℕ) (x y : Float) → num y ≡ b → den y ≡ 1 → b < 10000000 → Under x y → too_large x ≡ false
under-large b nan y N D l h = absurd h.small
under-large b (inf s) y N D l h = absurd h.small
under-large b (fin s m e) y N D l h =
    let c : m * up e * 1 ≤ b * down e = subst (λ (i : ℕ). m * up e * i ≤ b * down e) D (subst (λ (i : ℕ). m * up e * den y ≤ i * down e) N h.cross) in
    not-large s m e 0 (below (m * up e) b (down e) (down_pos e) l c)
  where
    below : (v b d : ℕ) → 0 < d → b < 10000000 → v * 1 ≤ b * d → v < 10000000 * d
    below v b d D l c = let k : (b + 1) * d ≤ 10000000 * d = mul-le-mul_right d (omega arith) in omega arith

-- each bound's computed facts
pub record Bound (b : ℕ) : Type 0 where
  pub is : num (# b) ≡ b
  pub unit : den (# b) ≡ 1
  pub low : b < 10000000

pub whole-answer : {b : ℕ} (x : Float) (p : ℕ) → Bound b → p ≤ 5 → Under x (# b) → rounded_of x p ≡ Ok (whole_of x p)
whole-answer {b} x p B h k = few x p h (under-large b x (# b) B.is B.unit B.low k)
