-- What a passed range test says of a whole number: its size, and so that it fits an i64 and is an f64 exactly; and differences of natural numbers. Assumes nothing.
use mathlib.Core.Path.{◌≡◌, refl, sym, ap, ◌∙◌, subst}
use mathlib.Core.Bool.{Bool, true, false, cond}
use Prim.Native.Nat.{ℕ, zero, suc, ◌+◌, ◌-◌, ◌^◌, ◌≤◌}
use native.Mathlib.Nat.{le_trans, lt_of_le_of_lt, lt_of_lt_of_le}
use native.Mathlib.Omega.{arith}
use borrow.Author.Tests.{le-ltb}
use lib.Dec.{T, leb, leb→le, le→leb, lt→ltb, lit≤, lit<}
use lib.IntN.{ℤ, pos, negsuc, nat_abs, ◌+ℤ◌, ◌-ℤ◌, sub_ℕ}
use lib.Ieee.{binary64, in_float}
use mir.Syntax.{w64}
use mir.Val.{SFits}
use Rattle.ranges.specs.Ranges.{within}
use Rattle.ranges.proofs.Ranges.{Natural, natural-holds, bounds, inside, sized}
use Rattle.rounding.proofs.Zn as zn
use Rattle.rounding.proofs.Zn.{◌⊕◌, ◌⊖◌, le, unle}
use Rattle.bounds.proofs.Zero.{Upto}
use Rattle.angle.specs.Ranges.{nearby}

-- between two numbers of the size b at most: of the size b at most
pub between-upto : (b : ℕ) (lo z hi : ℤ) → nat_abs lo ≤ b → nat_abs hi ≤ b → within lo z hi ≡ true → Upto b z
between-upto b lo z hi l k e = go z (sized lo z hi b l k e)
  where
    go : (y : ℤ) → nat_abs y ≤ b → Upto b y
    go (pos n) h = h
    go (negsuc n) h = h

-- between -(lo + 1) and hi
pub upto : (b lo : ℕ) (z : ℤ) (hi : ℕ) → suc lo ≤ b → hi ≤ b → within (negsuc lo) z (pos hi) ≡ true → Upto b z
upto b lo z hi l k e = between-upto b (negsuc lo) z (pos hi) l k e

-- a negative number of the size from lo to hi
pub record Negative (lo : ℕ) (z : ℤ) (hi : ℕ) : Type 0 where
  pub n : ℕ
  pub is : z ≡ negsuc n
  pub low : lo ≤ suc n
  pub high : suc n ≤ hi

pub negative : (lo : ℕ) (z : ℤ) (hi : ℕ) → within (negsuc hi) z (negsuc lo) ≡ true → Negative (suc lo) z (suc hi)
negative lo (pos n) hi e = absurd (bounds (negsuc hi) (pos n) (negsuc lo) e).1.le
negative lo (negsuc n) hi e =
    let b = bounds (negsuc hi) (negsuc n) (negsuc lo) e in
    let h : n ≤ hi = leb→le n hi b.0.le in
    let l : lo ≤ n = leb→le lo n b.1.le in
    record { n = n; is = refl; low = omega arith; high = omega arith }

pub natural-upto : {lo hi : ℕ} {z : ℤ} → Natural lo z hi → Upto hi z
natural-upto {lo} {hi} {z} p = subst (λ (y : ℤ). Upto hi y) (sym p.is) p.high

-- a natural number is in a wider range from 0
pub widened : {lo hi : ℕ} {z : ℤ} (top : ℕ) → Natural lo z hi → hi ≤ top → within (pos 0) z (pos top) ≡ true
widened top p h = let u = p.high in rw p.is (natural-holds 0 p.n top (omega arith) (omega arith))

-- up to 2^53 it is an f64 exactly, and it fits an i64
pub in-float : (b : ℕ) (z : ℤ) → T (leb b (2 ^ 53)) → Upto b z → T (in_float binary64 z)
unfolding in_float
in-float b (pos n) B h = le→leb n (2 ^ 53) (le_trans h (leb→le b (2 ^ 53) B))
in-float b (negsuc n) B h = lt→ltb n (2 ^ 53) (lt_of_lt_of_le h (leb→le b (2 ^ 53) B))

pub fits : (b : ℕ) (z : ℤ) → T (leb b (2 ^ 53)) → Upto b z → SFits w64 z
fits b (pos n) B h = record { sfits = lt_of_le_of_lt (le_trans h (leb→le b (2 ^ 53) B)) (lit< tt) }
fits b (negsuc n) B h = record { sfits = lt_of_lt_of_le h (le_trans (leb→le b (2 ^ 53) B) (lit≤ tt)) }

-- ---- differences
sub_is : (a b : ℕ) → pos a -ℤ pos b ≡ sub_ℕ a b
sub_is a zero =
    let e : a + 0 ≡ a - 0 = omega arith in
    ap pos e ∙ sym (ap (λ (t : Bool). cond t (negsuc (0 - suc a)) (pos (a - 0))) (le-ltb a 0 (omega arith)))
sub_is a (suc b) = refl

pub sub-pos : (a b : ℕ) → b ≤ a → pos a -ℤ pos b ≡ pos (a - b)
sub-pos a b h = sub_is a b ∙ ap (λ (t : Bool). cond t (negsuc (b - suc a)) (pos (a - b))) (le-ltb a b h)

-- ---- tests that say the same
same : (a b : Bool) → (a ≡ true → b ≡ true) → (b ≡ true → a ≡ true) → a ≡ b
same true b f g = sym (f refl)
same false true f g = g refl
same false false f g = refl

-- that the origin's longitude is at most 4 degrees from the point's, as the machine tests it, is that the difference is
pub apart-is : (n : ℕ) (z : ℤ) → 1440000000 ≤ n → within (pos (n - 1440000000)) z (pos (n + 1440000000)) ≡ nearby (pos n) z
apart-is n z h = same (within (pos (n - 1440000000)) z (pos (n + 1440000000))) (nearby (pos n) z) there back
  where
    there : within (pos (n - 1440000000)) z (pos (n + 1440000000)) ≡ true → nearby (pos n) z ≡ true
    there e =
        let b = bounds (pos (n - 1440000000)) z (pos (n + 1440000000)) e in
        let x = unle b.0 (zn.k (n - 1440000000)) (zn.v z) in
        let y = unle b.1 (zn.v z) (zn.k (n + 1440000000)) in
        inside (negsuc 1439999999) (pos n -ℤ z) (pos 1440000000) (le (zn.k- 1439999999) (zn.k n ⊖ zn.v z) (omega arith)) (le (zn.k n ⊖ zn.v z) (zn.k 1440000000) (omega arith))

    back : nearby (pos n) z ≡ true → within (pos (n - 1440000000)) z (pos (n + 1440000000)) ≡ true
    back e =
        let b = bounds (negsuc 1439999999) (pos n -ℤ z) (pos 1440000000) e in
        let x = unle b.0 (zn.k- 1439999999) (zn.k n ⊖ zn.v z) in
        let y = unle b.1 (zn.k n ⊖ zn.v z) (zn.k 1440000000) in
        inside (pos (n - 1440000000)) z (pos (n + 1440000000)) (le (zn.k (n - 1440000000)) (zn.v z) (omega arith)) (le (zn.v z) (zn.k (n + 1440000000)) (omega arith))

-- z + c from lo + c to hi + c is z from lo to hi
pub moved : (lo hi c : ℕ) (z : ℤ) → within (pos (lo + c)) (z +ℤ pos c) (pos (hi + c)) ≡ within (pos lo) z (pos hi)
moved lo hi c z = same (within (pos (lo + c)) (z +ℤ pos c) (pos (hi + c))) (within (pos lo) z (pos hi)) there back
  where
    there : within (pos (lo + c)) (z +ℤ pos c) (pos (hi + c)) ≡ true → within (pos lo) z (pos hi) ≡ true
    there e =
        let b = bounds (pos (lo + c)) (z +ℤ pos c) (pos (hi + c)) e in
        let x = unle b.0 (zn.k (lo + c)) (zn.v z ⊕ zn.k c) in
        let y = unle b.1 (zn.v z ⊕ zn.k c) (zn.k (hi + c)) in
        inside (pos lo) z (pos hi) (le (zn.k lo) (zn.v z) (omega arith)) (le (zn.v z) (zn.k hi) (omega arith))

    back : within (pos lo) z (pos hi) ≡ true → within (pos (lo + c)) (z +ℤ pos c) (pos (hi + c)) ≡ true
    back e =
        let b = bounds (pos lo) z (pos hi) e in
        let x = unle b.0 (zn.k lo) (zn.v z) in
        let y = unle b.1 (zn.v z) (zn.k hi) in
        inside (pos (lo + c)) (z +ℤ pos c) (pos (hi + c)) (le (zn.k (lo + c)) (zn.v z ⊕ zn.k c) (omega arith)) (le (zn.v z ⊕ zn.k c) (zn.k (hi + c)) (omega arith))
