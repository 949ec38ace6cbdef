-- Numbers are carried up to a cap that no range reaches: no range tells a number from the number as it is carried, and a number in its range is carried as
-- it is. So a fault of a carried record is the fault of the record, and where there is none the two are one.
use Rattle.std.proofs.Common.{◌≡◌, ℕ, suc, ◌<◌, ◌≤◌, min, Bool, true, false, ℤ, pos, negsuc, neg_ℤ, nat_abs, sym, refl, ap, ◌∙◌, arith, le-leb}
use lib.Signed.{le_z}
use native.Mathlib.Decide.{dec_lt}
use borrow.Author.Tests.{lt-leb}
use Rattle.ranges.specs.Ranges.{within}
use Rattle.ranges.proofs.Ranges.{alike, sized}
use Rattle.ranges.proofs.Carried.{Sure}
use Rattle.line.specs.Reading.{cap, capped_z}

-- ---- bools
pub never : ◌≡◌ {A = Bool} false true → ⊥
never q = let w : ◌≡◌ {A = ℕ} 0 1 = cc in omega arith

-- ---- a number
kept-pos : (n : ℕ) → n < cap → capped_z (pos n) ≡ pos n
kept-pos n h = ap pos (omega arith)

kept-neg : (n : ℕ) → suc n < cap → capped_z (negsuc n) ≡ negsuc n
kept-neg n h = let e : min (suc n) cap ≡ suc n = omega arith in rw e

far-pos : (n : ℕ) → cap ≤ n → capped_z (pos n) ≡ pos cap
far-pos n h = ap pos (omega arith)

far-neg : (n : ℕ) → cap ≤ suc n → capped_z (negsuc n) ≡ neg_ℤ (pos cap)
far-neg n h = let e : min (suc n) cap ≡ cap = omega arith in rw e

above_same : (k z : ℤ) → nat_abs k < cap → le_z k (capped_z z) ≡ le_z k z
above_same k (pos n) h = go (dec_lt n cap)
  where
    far : (j : ℤ) → nat_abs j < cap → cap ≤ n → le_z j (pos cap) ≡ le_z j (pos n)
    far (pos m) i l = le-leb m cap (omega arith) ∙ sym (le-leb m n (omega arith))
    far (negsuc m) i l = refl

    go : Dec (n < cap) → le_z k (capped_z (pos n)) ≡ le_z k (pos n)
    go (yes l) = ap (le_z k) (kept-pos n l)
    go (no l) = ap (le_z k) (far-pos n (omega arith)) ∙ far k h (omega arith)
above_same k (negsuc n) h = go (dec_lt (suc n) cap)
  where
    far : (j : ℤ) → nat_abs j < cap → cap ≤ suc n → le_z j (neg_ℤ (pos cap)) ≡ le_z j (negsuc n)
    far (pos m) i l = refl
    far (negsuc m) i l = lt-leb 9999999999999 m (omega arith) ∙ sym (lt-leb n m (omega arith))

    go : Dec (suc n < cap) → le_z k (capped_z (negsuc n)) ≡ le_z k (negsuc n)
    go (yes l) = ap (le_z k) (kept-neg n l)
    go (no l) = ap (le_z k) (far-neg n (omega arith)) ∙ far k h (omega arith)

below-same : (z k : ℤ) → nat_abs k < cap → le_z (capped_z z) k ≡ le_z z k
below-same (pos n) k h = go (dec_lt n cap)
  where
    far : (j : ℤ) → nat_abs j < cap → cap ≤ n → le_z (pos cap) j ≡ le_z (pos n) j
    far (pos m) i l = lt-leb cap m (omega arith) ∙ sym (lt-leb n m (omega arith))
    far (negsuc m) i l = refl

    go : Dec (n < cap) → le_z (capped_z (pos n)) k ≡ le_z (pos n) k
    go (yes l) = ap (λ (x : ℤ). le_z x k) (kept-pos n l)
    go (no l) = ap (λ (x : ℤ). le_z x k) (far-pos n (omega arith)) ∙ far k h (omega arith)
below-same (negsuc n) k h = go (dec_lt (suc n) cap)
  where
    far : (j : ℤ) → nat_abs j < cap → cap ≤ suc n → le_z (neg_ℤ (pos cap)) j ≡ le_z (negsuc n) j
    far (pos m) i l = refl
    far (negsuc m) i l = le-leb m 9999999999999 (omega arith) ∙ sym (le-leb m n (omega arith))

    go : Dec (suc n < cap) → le_z (capped_z (negsuc n)) k ≡ le_z (negsuc n) k
    go (yes l) = ap (λ (x : ℤ). le_z x k) (kept-neg n l)
    go (no l) = ap (λ (x : ℤ). le_z x k) (far-neg n (omega arith)) ∙ far k h (omega arith)

kept-size : (z : ℤ) → nat_abs z ≤ 9999999999999 → capped_z z ≡ z
kept-size (pos n) h = kept-pos n (omega arith)
kept-size (negsuc n) h = kept-neg n (omega arith)

pub sure-within : (lo hi : ℤ) → nat_abs lo < cap → nat_abs hi < cap → Sure capped_z (λ z. within lo z hi)
sure-within lo hi l h =
    record {
      same = λ z. alike lo hi (capped_z z) z (above_same lo z l) (below-same z hi h);
      kept = λ z e. kept-size z (sized lo z hi 9999999999999 (omega arith) (omega arith) e);
    }
