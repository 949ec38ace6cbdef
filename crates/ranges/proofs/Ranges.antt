-- Laws of the ranges: what a test that holds says of the number, when a test holds, and that a test looks at a number by the two ends alone. Proofs elsewhere use
-- these and not the text of `within`. Assumes nothing.
use mathlib.Core.Path.{◌≡◌, refl, sym, ap, ap₂, ◌∙◌, subst}
use mathlib.Core.Bool.{Bool, true, false, not, ◌&&◌}
use Prim.Native.Nat.{ℕ, zero, suc, ◌≤◌, ◌<◌}
use native.Mathlib.Decide.{dec_lt}
use native.Mathlib.Omega.{arith}
use borrow.Author.Tests.{lt-ltb, le-ltb, le-leb, lt-leb, leb-true}
use lib.Dec.{T, ltb, leb}
use lib.IntN.{ℤ, pos, negsuc, neg_ℤ, nat_abs}
use lib.Signed.{le_z, lt_z, ◌≤ℤ◌}
use mir.Syntax.{w64}
use mir.Val.{SFits, to_z, of_z}
use mir.ValLaws.{to_z-of_z}
use Rattle.ranges.specs.Ranges.{within, up_to, equal}

-- ---- tests
never : false ≡ true → ⊥
never e = subst T (sym e) tt

is_true : (t : Bool) → T t → t ≡ true
is_true true h = refl
is_true false h = absurd h

-- the parts of a test that holds
pub both : (a b : Bool) → (a && b) ≡ true → (a ≡ true) × (b ≡ true)
both true b e = (refl, e)
both false b e = absurd (never e)

pub all : (a b c : Bool) → (a && b && c) ≡ true → (a ≡ true) × (b ≡ true) × (c ≡ true)
all a b c e = let f = both (a && b) c e in let g = both a b f.0 in (g.0, g.1, f.1)

-- ---- lo ≤ z ≤ hi, and the test
pub bounds : (lo z hi : ℤ) → within lo z hi ≡ true → (lo ≤ℤ z) × (z ≤ℤ hi)
unfolding within
bounds lo z hi e =
    let f = both (le_z lo z) (le_z z hi) e in
    (record { le = subst T (sym f.0) tt }, record { le = subst T (sym f.1) tt })

pub inside : (lo z hi : ℤ) → lo ≤ℤ z → z ≤ℤ hi → within lo z hi ≡ true
unfolding within
inside lo z hi l h = ap₂ ◌&&◌ (is_true (le_z lo z) l.le) (is_true (le_z z hi) h.le)

-- numbers that stand alike to both ends are alike in the range
pub alike : (lo hi y z : ℤ) → le_z lo y ≡ le_z lo z → le_z y hi ≡ le_z z hi → within lo y hi ≡ within lo z hi
unfolding within
alike lo hi y z l h = ap₂ ◌&&◌ l h

-- ---- a number beside the range, or inside, by the strict tests
lt-le : (a b : ℤ) → lt_z a b ≡ not (le_z b a)
lt-le (pos a) (pos b) = go (dec_lt a b)
  where
    go : Dec (a < b) → ltb a b ≡ not (leb b a)
    go (yes l) = rw (lt-ltb a b l, lt-leb b a l)
    go (no l) = rw (le-ltb a b (omega arith), le-leb b a (omega arith))
lt-le (pos a) (negsuc b) = refl
lt-le (negsuc a) (pos b) = refl
lt-le (negsuc a) (negsuc b) = go (dec_lt b a)
  where
    go : Dec (b < a) → ltb b a ≡ not (leb a b)
    go (yes l) = rw (lt-ltb b a l, lt-leb a b l)
    go (no l) = rw (le-ltb b a (omega arith), le-leb a b (omega arith))

turned : (b : Bool) (t : Bool) → t ≡ not b → b ≡ not t
turned true t e = rw e
turned false t e = rw e

le_not : (a b : ℤ) (t : Bool) → lt_z a b ≡ t → le_z b a ≡ not t
le_not a b t e = turned (le_z b a) t (sym e ∙ lt-le a b)

and-false : (a : Bool) → (a && false) ≡ false
and-false true = refl
and-false false = refl

pub below : (lo z hi : ℤ) → lt_z z lo ≡ true → within lo z hi ≡ false
unfolding within
below lo z hi e = rw (le_not z lo true e)

pub above : (lo z hi : ℤ) → lt_z hi z ≡ true → within lo z hi ≡ false
unfolding within
above lo z hi e = rw (le_not hi z true e) (and-false (le_z lo z))

pub between : (lo z hi : ℤ) → lt_z z lo ≡ false → lt_z hi z ≡ false → within lo z hi ≡ true
unfolding within
between lo z hi d e = rw (le_not z lo false d, le_not hi z false e)

-- ---- sizes
-- a number between two of at most m is at most m
pub sized : (lo z hi : ℤ) (m : ℕ) → nat_abs lo ≤ m → nat_abs hi ≤ m → within lo z hi ≡ true → nat_abs z ≤ m
unfolding within
sized lo (pos n) (pos h) m l k e = omega (arith, leb-true n h (both (le_z lo (pos n)) (leb n h) e).1)
sized lo (pos n) (negsuc h) m l k e = absurd (never (both (le_z lo (pos n)) false e).1)
sized (pos a) (negsuc n) hi m l k e = absurd (never e)
sized (negsuc a) (negsuc n) hi m l k e = omega (arith, leb-true n a (both (leb n a) (le_z (negsuc n) hi) e).0)

neg-abs : (m : ℕ) → nat_abs (neg_ℤ (pos m)) ≡ m
neg-abs zero = refl
neg-abs (suc m) = refl

pub up-to : (m : ℕ) (z : ℤ) → up_to m z ≡ true → nat_abs z ≤ m
up-to m z e = sized (neg_ℤ (pos m)) z (pos m) m (omega (arith, neg-abs m)) (omega arith) e

pub up-to-holds : (m : ℕ) (z : ℤ) → nat_abs z ≤ m → up_to m z ≡ true
unfolding within
up-to-holds zero (pos n) h = rw (le-leb 0 n (omega arith), le-leb n 0 h)
up-to-holds zero (negsuc n) h = absurd (no n h)
  where
    no : (n : ℕ) → suc n ≤ 0 → ⊥
    no n h = omega arith
up-to-holds (suc m) (pos n) h = le-leb n (suc m) h
up-to-holds (suc m) (negsuc n) h = rw (le-leb n m (omega arith))

-- ---- a natural number from lo to hi
pub record Natural (lo : ℕ) (z : ℤ) (hi : ℕ) : Type 0 where
  pub n : ℕ
  pub is : z ≡ pos n
  pub low : lo ≤ n
  pub high : n ≤ hi

pub natural : (lo : ℕ) (z : ℤ) (hi : ℕ) → within (pos lo) z (pos hi) ≡ true → Natural lo z hi
unfolding within
natural lo (pos n) hi e =
    let f = both (leb lo n) (leb n hi) e in
    record { n = n; is = refl; low = leb-true lo n f.0; high = leb-true n hi f.1 }
natural lo (negsuc n) hi e = absurd (never e)

pub natural-holds : (lo n hi : ℕ) → lo ≤ n → n ≤ hi → within (pos lo) (pos n) (pos hi) ≡ true
unfolding within
natural-holds lo n hi l h = rw (le-leb lo n l, le-leb n hi h)

-- ---- one number
same-pos : (a b : ℤ) → (a ≤ℤ b) × (b ≤ℤ a) → a ≡ b
same-pos (pos a) (pos b) h = let x : a ≡ b = omega (arith, leb-true a b (is_true (leb a b) h.0.le), leb-true b a (is_true (leb b a) h.1.le)) in rw x
same-pos (pos a) (negsuc b) h = absurd h.0.le
same-pos (negsuc a) (pos b) h = absurd h.1.le
same-pos (negsuc a) (negsuc b) h =
    let x : a ≡ b = omega (arith, leb-true b a (is_true (leb b a) h.0.le), leb-true a b (is_true (leb a b) h.1.le)) in rw x

pub equal_is : (a b : ℤ) → equal a b ≡ true → a ≡ b
equal_is a b e = same-pos a b (bounds a b a e)

pub equal-self : (a : ℤ) → equal a a ≡ true
unfolding within
equal-self (pos n) = rw (le-leb n n (omega arith))
equal-self (negsuc n) = rw (le-leb n n (omega arith))

-- ---- a test of what the machine reads back from a number's bits is a test of the number
pub told : (lo z hi : ℤ) {r t : Bool} → SFits w64 z → r ≡ within lo (to_z w64 (of_z w64 z)) hi → r ≡ t → within lo z hi ≡ t
told lo z hi f e h = sym (ap (λ (y : ℤ). within lo y hi) (to_z-of_z w64 z f)) ∙ sym e ∙ h
