-- That `rounded` is the one number that its rule asks for, and so has every law of `Rounds`; and that half away from zero is symmetric. Assumes nothing.
use mathlib.Core.Path.{◌≡◌, refl, sym, ◌∙◌, ap, subst}
use mathlib.Core.Bool.{Bool, true, false, not, ◌&&◌, ◌||◌}
use Prim.Native.Nat.{ℕ, zero, suc, ◌+◌, ◌*◌, ◌/◌, ◌%◌, ◌<◌, ◌≤◌}
use native.Mathlib.Nat as NatL
use native.Mathlib.Omega.{arith}
use borrow.Author.Tests.{ltb-true, ltb-false, le-ltb, eq-eqb, ne_eqb, eqb-true, eqb-false}
use lib.Dec.{ltb, eqb}
use lib.IntN.{ℤ, pos, negsuc, neg_ℤ, nat_abs, ◌+ℤ◌, ◌-ℤ◌, ◌*ℤ◌}
use lib.Signed.{◌≤ℤ◌, ◌<ℤ◌, le_z}
use Rattle.refusal.specs.Order.{pick}
use Rattle.rounding.specs.Nearest.{Near, Ties, away, to_even, Symmetric, Rounds, floor, rest, goes_up, rounded}
use Rattle.rounding.proofs.Zn.{P, N, v, k, k-, neg, ◌⊕◌, ◌⊖◌, ◌⊗◌, le, unle, lt, unlt, eq, uneq, abs, unabs, pos-abs, abs_neg}
use Rattle.rounding.proofs.Machine.{le-true, le-false, yes_le, not-le}
use Rattle.rounding.proofs.Nearest.{near_apart, near-mono, near-size, near-least, near-most, unique, opposite}

-- ---- z = t·d + r
module _ (d : ℕ) (d>0 : 0 < d) where
  pub divided : (z : ℤ) → z ≡ floor z d *ℤ pos d +ℤ pos (rest z d)
  unfolding floor rest
  divided (pos a) = eq (k a) (k (a / d) ⊗ k d ⊕ k (a % d)) (omega (arith, NatL.div-add-mod' a d))
  divided (negsuc a) =
      let l = NatL.mod-lt a d>0 in
      eq (k- a) (k- (a / d) ⊗ k d ⊕ k _) (omega (arith, NatL.div-add-mod' a d))

  pub below : (z : ℤ) → rest z d < d
  unfolding rest
  below (pos a) = NatL.mod-lt a d>0
  below (negsuc a) = omega arith

-- ---- t + r/d is rounded to t or to t + 1
module _ (ties : Ties) (t : ℤ) (r d : ℕ) (r<d : r < d) where
  over-half : goes_up ties t r d ≡ true → d ≤ r + r
  unfolding goes_up
  over-half = go (ltb d (r + r)) (eqb (r + r) d) (ties t) refl refl
    where
      go : (a b c : Bool) → ltb d (r + r) ≡ a → eqb (r + r) d ≡ b → (a || (b && c)) ≡ true → d ≤ r + r
      go true b c e f g = omega (arith, ltb-true d (r + r) e)
      go false true c e f g = omega (arith, eqb-true (r + r) d f)
      go false false c e f g = let z : ◌≡◌ {A = ℕ} 0 1 = cc in absurd (omega arith)

  under-half : goes_up ties t r d ≡ false → r + r ≤ d
  unfolding goes_up
  under-half = go (ltb d (r + r)) refl
    where
      go : (a : Bool) → ltb d (r + r) ≡ a → (a || (eqb (r + r) d && ties t)) ≡ false → r + r ≤ d
      go true e g = let z : ◌≡◌ {A = ℕ} 0 1 = cc in absurd (omega arith)
      go false e g = ltb-false d (r + r) e

  at-half : r + r ≡ d → goes_up ties t r d ≡ ties t
  unfolding goes_up
  at-half e = rw (le-ltb d (r + r) (omega arith), eq-eqb (r + r) d e)

  near : Near (t *ℤ pos d +ℤ pos r) d (pick (goes_up ties t r d) (t +ℤ pos 1) t)
  near = go (goes_up ties t r d) refl
    where
      go : (b : Bool) → goes_up ties t r d ≡ b → Near (t *ℤ pos d +ℤ pos r) d (pick b (t +ℤ pos 1) t)
      go true e =
          let h = over-half e in
          record { near = abs (k 2 ⊗ (k d ⊗ (v t ⊕ k 1) ⊖ (v t ⊗ k d ⊕ k r))) (omega arith) (omega arith) }
      go false e =
          let h = under-half e in
          record { near = abs (k 2 ⊗ (k d ⊗ v t ⊖ (v t ⊗ k d ⊕ k r))) (omega arith) (omega arith) }

  -- where it is u + 1/2, u is t and r is half of d
  which : (u : ℤ) → pos 2 *ℤ (t *ℤ pos d +ℤ pos r) ≡ (pos 2 *ℤ u +ℤ pos 1) *ℤ pos d → (t ≡ u) × (r + r ≡ d)
  which u e =
      let f = uneq e (k 2 ⊗ (v t ⊗ k d ⊕ k r)) ((k 2 ⊗ v u ⊕ k 1) ⊗ k d) in
      let a : P t + N u < N t + P u + 1 = NatL.lt_of_mul-lt-mul_left d (omega arith) in
      let b : N t + P u < P t + N u + 1 = NatL.lt_of_mul-lt-mul_left d (omega arith) in
      let c : P t + N u ≡ N t + P u = omega arith in
      let m = ap (λ (n : ℕ). d * n) c in
      (eq (v t) (v u) (omega arith), omega arith)

  pub decides : Rounds ties (t *ℤ pos d +ℤ pos r) d (pick (goes_up ties t r d) (t +ℤ pos 1) t)
  decides = record {
    near = near;
    half = λ u e. let w = which u e in ap (λ (b : Bool). pick b (t +ℤ pos 1) t) (at-half w.1) ∙ ap (λ (x : ℤ). pick (ties x) (x +ℤ pos 1) x) w.0;
  }

-- ---- what `rounded` is
module _ (ties : Ties) {d : ℕ} (d>0 : 0 < d) where
  pub is-rounded : (z : ℤ) → Rounds ties z d (rounded ties z d)
  unfolding rounded
  is-rounded z =
      subst (λ (x : ℤ). Rounds ties x d (pick (goes_up ties (floor z d) (rest z d) d) (floor z d +ℤ pos 1) (floor z d))) (sym (divided d d>0 z))
      (decides ties (floor z d) (rest z d) d (below d d>0 z))

  -- and no other number
  pub only-rounded : {z r : ℤ} → Rounds ties z d r → rounded ties z d ≡ r
  only-rounded {z} p = unique (is-rounded z) p

  pub rounded-near : (z : ℤ) → Near z d (rounded ties z d)
  rounded-near z = (is-rounded z).near

  -- two values that lie less than L + 1 apart are rounded to numbers at most L + 1 apart
  pub rounded-apart : (L : ℕ) (x y : ℤ) → nat_abs (x -ℤ y) < (L + 1) * d → nat_abs (rounded ties x d -ℤ rounded ties y d) ≤ L + 1
  rounded-apart L x y l = near_apart L (rounded-near x) (rounded-near y) l

  -- a larger value is rounded to no smaller number
  pub rounded-mono : (x y : ℤ) → x <ℤ y → rounded ties x d ≤ℤ rounded ties y d
  rounded-mono x y l = near-mono (rounded-near x) (rounded-near y) l

  -- a value of at most m is rounded to a number of at most m
  pub rounded-size : (m : ℕ) (z : ℤ) → nat_abs z ≤ m * d → nat_abs (rounded ties z d) ≤ m
  rounded-size m z l = near-size m d>0 (rounded-near z) l

  -- between two whole numbers, a value is rounded to a number between them
  pub rounded-least : (lo z : ℤ) → (lo *ℤ pos d) ≤ℤ z → lo ≤ℤ rounded ties z d
  rounded-least lo z l = near-least lo d>0 (rounded-near z) l

  pub rounded-most : (hi z : ℤ) → z ≤ℤ (hi *ℤ pos d) → rounded ties z d ≤ℤ hi
  rounded-most hi z l = near-most hi d>0 (rounded-near z) l

  -- and a whole number to itself
  pub rounded-exact : (z : ℤ) → rounded ties (z *ℤ pos d) d ≡ z
  rounded-exact z =
      let h = le (v (z *ℤ pos d)) (v (z *ℤ pos d)) (omega arith) in
      let a = unle (rounded-least z (z *ℤ pos d) h) (v z) (v (rounded ties (z *ℤ pos d) d)) in
      let b = unle (rounded-most z (z *ℤ pos d) h) (v (rounded ties (z *ℤ pos d) d)) (v z) in
      eq (v (rounded ties (z *ℤ pos d) d)) (v z) (omega arith)

  -- by a symmetric rule the opposite is rounded to the opposite
  pub rounded-opposite : Symmetric ties → (z : ℤ) → rounded ties (neg_ℤ z) d ≡ neg_ℤ (rounded ties z d)
  rounded-opposite s z = only-rounded (opposite s (is-rounded z))

-- a whole number is rounded to itself
pub rounded-whole : (ties : Ties) (z : ℤ) → rounded ties z 1 ≡ z
rounded-whole ties z =
    let u = unabs 1 (rounded-near ties (omega arith) z).near (k 2 ⊗ (k 1 ⊗ v (rounded ties z 1) ⊖ v z)) in
    eq (v (rounded ties z 1)) (v z) (omega arith)

-- t + r/d is rounded by what r is of d
pub rounded-floor : (ties : Ties) (t : ℤ) (r d : ℕ) → r < d → rounded ties (t *ℤ pos d +ℤ pos r) d ≡ pick (goes_up ties t r d) (t +ℤ pos 1) t
rounded-floor ties t r d h = only-rounded ties (omega arith) (decides ties t r d h)

-- ---- half away from zero
pub away-symmetric : Symmetric away
unfolding away
away-symmetric = record { opposite = λ t. go t (le_z (pos 0) t) refl }
  where
    go : (t : ℤ) (b : Bool) → le_z (pos 0) t ≡ b → le_z (pos 0) (neg_ℤ (t +ℤ pos 1)) ≡ not b
    go t true e = let h = unle (le-true (pos 0) t e) (k 0) (v t) in not-le (pos 0) (neg_ℤ (t +ℤ pos 1)) (lt (neg (v t ⊕ k 1)) (k 0) (omega arith))
    go t false e = let h = unlt (le-false (pos 0) t e) (v t) (k 0) in yes_le (pos 0) (neg_ℤ (t +ℤ pos 1)) (le (k 0) (neg (v t ⊕ k 1)) (omega arith))

-- ---- half to the even number
-- n and n + 1 are not both odd, nor both even
one-odd : (n : ℕ) (b : Bool) → eqb (n % 2) 1 ≡ b → eqb ((n + 1) % 2) 1 ≡ not b
one-odd n true e = ne_eqb ((n + 1) % 2) 1 (λ q. omega (arith, eqb-true (n % 2) 1 e, q))
one-odd n false e = let h = other (n % 2) (omega arith) (eqb-false (n % 2) 1 e) in eq-eqb ((n + 1) % 2) 1 (omega arith)
  where
    other : (m : ℕ) → m < 2 → (m ≡ 1 → ⊥) → m ≡ 0
    other zero l h = refl
    other (suc zero) l h = absurd (h refl)
    other (suc (suc m)) l h = omega arith

-- what a test says of n and of n + 1
odd-next : (n : ℕ) → eqb ((n + 1) % 2) 1 ≡ not (eqb (n % 2) 1)
odd-next n = one-odd n (eqb (n % 2) 1) refl

twice : (a b : Bool) → a ≡ not b → b ≡ not a
twice true false e = refl
twice false true e = refl
twice true true e = e
twice false false e = e

pub even-symmetric : Symmetric to_even
unfolding to_even
even-symmetric = record { opposite = go }
  where
    odd : {m n : ℕ} → m ≡ n → eqb (m % 2) 1 ≡ eqb (n % 2) 1
    odd e = ap (λ (n : ℕ). eqb (n % 2) 1) e

    go : (t : ℤ) → eqb (nat_abs (neg_ℤ (t +ℤ pos 1)) % 2) 1 ≡ not (eqb (nat_abs t % 2) 1)
    go (pos n) = odd (abs_neg (pos n +ℤ pos 1) ∙ above) ∙ odd-next n
      where
        above : nat_abs (pos n +ℤ pos 1) ≡ n + 1
        above = let h = pos-abs (le (k 0) (k n ⊕ k 1) (omega arith)) (k n ⊕ k 1) in omega arith
    go (negsuc n) = odd below ∙ twice (eqb ((n + 1) % 2) 1) (eqb (n % 2) 1) (odd-next n) ∙ ap not (odd next)
      where
        below : nat_abs (neg_ℤ (negsuc n +ℤ pos 1)) ≡ n
        below = let h = pos-abs (le (k 0) (neg (k- n ⊕ k 1)) (omega arith)) (neg (k- n ⊕ k 1)) in omega arith

        next : n + 1 ≡ suc n
        next = omega arith
