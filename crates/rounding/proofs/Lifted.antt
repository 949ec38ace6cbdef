-- A fraction over an even divisor by one division of a lifted number, which is never below 0: u = n + l·d + d/2. The quotient is n/d rounded, a half up; only where
-- nothing is left over is it a half, and then the rule decides. Assumes nothing.
use mathlib.Core.Path.{◌≡◌, refl, sym, ◌∙◌, ap}
use mathlib.Core.Bool.{Bool, true, false, not}
use Prim.Native.Nat.{ℕ, suc, ◌+◌, ◌*◌, ◌-◌, ◌/◌, ◌%◌, ◌<◌, ◌≤◌}
use native.Mathlib.Nat as NatL
use native.Mathlib.Decide.{dec_le, ℕ_discrete}
use native.Mathlib.Omega.{arith}
use lib.Dec.{eqb}
use lib.IntN.{ℤ, pos, negsuc, neg_ℤ, ◌+ℤ◌, ◌-ℤ◌}
use mir.Syntax.{w64}
use mir.Val.{SFits}
use borrow.Author.Tests.{lt-ltb, le-ltb, eq-eqb, ne_eqb, eqb-true}
use Rattle.refusal.specs.Order.{pick}
use Rattle.rounding.specs.Nearest.{to_even, goes_up, rounded}
use Rattle.rounding.specs.Quotient.{mixed, settled_of}
use Rattle.rounding.proofs.Zn.{v, k, ◌⊕◌, ◌⊖◌, ◌⊗◌, eq, uneq, abs, abs_neg}
use Rattle.rounding.proofs.Machine.{fits}
use Rattle.rounding.proofs.Roundings.{rounded-floor, even-symmetric}

-- t is odd where t - 1 is not
before : (t : ℤ) → t -ℤ pos 1 +ℤ pos 1 ≡ t
before t = eq (v t ⊖ k 1 ⊕ k 1) (v t) (omega arith)

odd-neg : (t : ℤ) → to_even (neg_ℤ t) ≡ to_even t
unfolding to_even
odd-neg t = ap (λ (n : ℕ). eqb (n % 2) 1) (abs_neg t)

odd-after : (t : ℤ) → to_even t ≡ not (to_even (t -ℤ pos 1))
odd-after t = sym (odd-neg t) ∙ ap (λ (z : ℤ). to_even (neg_ℤ z)) (sym (before t)) ∙ even-symmetric.opposite (t -ℤ pos 1)

turned : (t : ℤ) (a b : Bool) → b ≡ not a → pick a (t -ℤ pos 1 +ℤ pos 1) (t -ℤ pos 1) ≡ pick b (t -ℤ pos 1) t
turned t true false e = before t
turned t false true e = refl
turned t true true e = let w : ◌≡◌ {A = ℕ} 0 1 = cc in absurd (omega arith)
turned t false false e = let w : ◌≡◌ {A = ℕ} 0 1 = cc in absurd (omega arith)

-- an odd i64 is not the least one
pub odd-fits : (t : ℤ) → SFits w64 t → to_even t ≡ true → SFits w64 (t -ℤ pos 1)
unfolding to_even
odd-fits (pos n) f o = fits 9223372036854775807 (abs (k n ⊖ k 1) (omega (arith, f.sfits)) (omega (arith, eqb-true (n % 2) 1 o))) (omega arith)
odd-fits (negsuc n) f o = record { sfits = omega (arith, f.sfits, eqb-true (suc n % 2) 1 o) }

module _ (a n : ℤ) (d h l u q r : ℕ) (even : d ≡ h + h) (some : 0 < h) (up : pos u ≡ n +ℤ pos (l * d + h)) (div : q * d + r ≡ u) (less : r < d) where
  abbrev t : ℤ
  t = a +ℤ (pos q -ℤ pos l)

  -- a half: nothing is left over
  half : r ≡ 0 → settled_of true t ≡ mixed to_even a n (pos d)
  unfolding goes_up
  half z =
      sym
      (ap (λ (z : ℤ). rounded to_even z d)
      (eq (v a ⊗ k d ⊕ v n) ((v a ⊕ (k q ⊖ k l) ⊖ k 1) ⊗ k d ⊕ k h) (omega (arith, uneq up (k u) (v n ⊕ k (l * d + h)))))
      ∙ rounded-floor to_even (t -ℤ pos 1) h d (omega arith)
      ∙ rw (le-ltb d (h + h) (omega arith), eq-eqb (h + h) d (omega arith)) (turned t (to_even (t -ℤ pos 1)) (to_even t) (odd-after t)))

  over : r < h → 0 < r → t ≡ mixed to_even a n (pos d)
  unfolding goes_up
  over z o =
      sym
      (ap (λ (z : ℤ). rounded to_even z d)
      (eq (v a ⊗ k d ⊕ v n) ((v a ⊕ (k q ⊖ k l) ⊖ k 1) ⊗ k d ⊕ k (r + h)) (omega (arith, uneq up (k u) (v n ⊕ k (l * d + h)))))
      ∙ rounded-floor to_even (t -ℤ pos 1) (r + h) d (omega arith)
      ∙ rw (lt-ltb d (r + h + (r + h)) (omega arith)) (before t))

  under : h ≤ r → t ≡ mixed to_even a n (pos d)
  unfolding goes_up
  under z =
      sym
      (ap (λ (z : ℤ). rounded to_even z d)
      (eq (v a ⊗ k d ⊕ v n) ((v a ⊕ (k q ⊖ k l)) ⊗ k d ⊕ k (r - h)) (omega (arith, uneq up (k u) (v n ⊕ k (l * d + h)))))
      ∙ rounded-floor to_even t (r - h) d (omega arith)
      ∙ rw (le-ltb d (r - h + (r - h)) (omega arith), ne_eqb (r - h + (r - h)) d (λ e. omega arith)))

  by : settled_of (eqb u (q * d)) t ≡ mixed to_even a n (pos d)
  by = go (ℕ_discrete r 0) (dec_le h r)
    where
      go : Dec (r ≡ 0) → Dec (h ≤ r) → settled_of (eqb u (q * d)) t ≡ mixed to_even a n (pos d)
      go (yes z) l = rw (eq-eqb u (q * d) (omega arith)) (half z)
      go (no z) (yes l) = rw (ne_eqb u (q * d) (λ e. z (omega arith))) (under l)
      go (no z) (no l) = rw (ne_eqb u (q * d) (λ e. z (omega arith))) (over (omega arith) (omega arith))

-- the code's quotient
pub lifted-rounds : (a n : ℤ) (d h l u : ℕ) → d ≡ h + h → 0 < h → pos u ≡ n +ℤ pos (l * d + h) → settled_of (eqb u (u / d * d)) (a +ℤ (pos (u / d) -ℤ pos l)) ≡ mixed to_even a n (pos d)
lifted-rounds a n d h l u even some up = by a n d h l u (u / d) (u % d) even some up (NatL.div-add-mod' u d) (NatL.mod-lt u (omega arith))
