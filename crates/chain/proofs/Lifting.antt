-- What the lifted number and its quotient are, so that nothing passes its type. Assumes nothing.
use mathlib.Core.Path.{◌≡◌, refl}
use mathlib.Core.Bool.{true, false}
use Prim.Native.Nat.{ℕ, suc, ◌+◌, ◌-◌, ◌≤◌}
use native.Mathlib.Omega.{arith}
use lib.Dec.{T}
use lib.IntN.{ℤ, pos, negsuc, neg_ℤ, nat_abs, ◌+ℤ◌, ◌-ℤ◌}
use lib.Signed.{lt_z, non_neg}
use mir.Syntax.{w64}
use mir.Val.{Fits, SFits}
use borrow.Author.Tests.{ltb-true}
use Rattle.rounding.proofs.Zn.{v, k, k-, ◌⊕◌, ◌⊖◌, eq, uneq, abs, unabs, abs_neg}
use Rattle.rounding.proofs.Machine.{fits}

-- the most that a part's numerator is, in size
abbrev pub largest_numerator : ℕ
largest_numerator = 8000000000000000000

-- ---- the lifted number, by the sign of n
pub turned : (n : ℤ) → nat_abs n ≤ largest_numerator → SFits w64 (neg_ℤ n)
turned n h = fits largest_numerator (rw (abs_neg n) h) (omega arith)

pub below-casts : (n : ℤ) → lt_z n (pos 0) ≡ true → nat_abs n ≤ largest_numerator → T (non_neg (neg_ℤ n)) × Fits w64 (nat_abs (neg_ℤ n))
below-casts (pos m) l h = absurd (omega (arith, ltb-true m 0 l))
below-casts (negsuc m) l h = (tt, record { fits = omega arith })

pub below-lift : (n : ℤ) (lift : ℕ) → lt_z n (pos 0) ≡ true → nat_abs n ≤ largest_numerator → largest_numerator ≤ lift → pos (lift - nat_abs (neg_ℤ n)) ≡ n +ℤ pos lift
below-lift (pos m) lift l h g = absurd (omega (arith, ltb-true m 0 l))
below-lift (negsuc m) lift l h g = eq (k (lift - suc m)) (k- m ⊕ k lift) (omega arith)

pub above-casts : (n : ℤ) → lt_z n (pos 0) ≡ false → nat_abs n ≤ largest_numerator → T (non_neg n) × Fits w64 (nat_abs n)
above-casts (pos m) l h = (tt, record { fits = omega arith })
above-casts (negsuc m) l h = let w : ◌≡◌ {A = ℕ} 0 1 = cc in absurd (omega arith)

pub above-lift : (n : ℤ) (lift : ℕ) → lt_z n (pos 0) ≡ false → pos (lift + nat_abs n) ≡ n +ℤ pos lift
above-lift (pos m) lift l = eq (k (lift + m)) (k m ⊕ k lift) (omega arith)
above-lift (negsuc m) lift l = let w : ◌≡◌ {A = ℕ} 0 1 = cc in absurd (omega arith)

pub at_most : (n : ℤ) (u lift : ℕ) → pos u ≡ n +ℤ pos lift → nat_abs n ≤ largest_numerator → u ≤ largest_numerator + lift
at_most n u lift e h = omega (arith, uneq e (k u) (v n ⊕ k lift), unabs largest_numerator h (v n))

-- ---- where the lift is small, the sum by itself: it is never below 0
module _ (n : ℤ) (h : nat_abs n ≤ 2000000000) where
  pub small-fits : SFits w64 (n +ℤ pos 2000000500)
  small-fits = let x = unabs 2000000000 h (v n) in fits 4000000500 (abs (v n ⊕ k 2000000500) (omega arith) (omega arith)) (omega arith)

  pub small-most : nat_abs (n +ℤ pos 2000000500) ≤ 4000000500
  small-most = let x = unabs 2000000000 h (v n) in abs (v n ⊕ k 2000000500) (omega arith) (omega arith)

  pub small-lift : pos (nat_abs (n +ℤ pos 2000000500)) ≡ n +ℤ pos 2000000500
  small-lift = go (n +ℤ pos 2000000500) refl
    where
      go : (z : ℤ) → n +ℤ pos 2000000500 ≡ z → pos (nat_abs z) ≡ z
      go (pos m) e = refl
      go (negsuc m) e = absurd (let x = unabs 2000000000 h (v n) in omega (arith, uneq e (v n ⊕ k 2000000500) (k- m)))

  pub small-casts : T (non_neg (n +ℤ pos 2000000500)) × Fits w64 (nat_abs (n +ℤ pos 2000000500))
  small-casts = go (n +ℤ pos 2000000500) refl small-most
    where
      go : (z : ℤ) → n +ℤ pos 2000000500 ≡ z → nat_abs z ≤ 4000000500 → T (non_neg z) × Fits w64 (nat_abs z)
      go (pos m) e l = (tt, record { fits = omega arith })
      go (negsuc m) e l = absurd (let x = unabs 2000000000 h (v n) in omega (arith, uneq e (v n ⊕ k 2000000500) (k- m)))

-- ---- the quotient without the lift
pub quotient_fits : (q : ℕ) (l : ℤ) → q ≤ 200000000 → nat_abs l ≤ 100000000 → SFits w64 (pos q -ℤ l)
quotient_fits q l h g = let x = unabs 100000000 g (v l) in fits 300000000 (abs (k q ⊖ v l) (omega arith) (omega arith)) (omega arith)

pub sum_fits : (a : ℤ) (q : ℕ) (l : ℤ) → nat_abs a ≤ 100000000 → q ≤ 200000000 → nat_abs l ≤ 100000000 → SFits w64 (a +ℤ (pos q -ℤ l))
sum_fits a q l f h g =
    let x = unabs 100000000 g (v l) in
    let y = unabs 100000000 f (v a) in
    fits 400000000 (abs (v a ⊕ (k q ⊖ v l)) (omega arith) (omega arith)) (omega arith)
