-- The laws of rounding, over the predicate, and so over every divisor and every rule for halves: a nearest number is nearest, monotone, near fractions to near
-- numbers, no larger than the fraction; by a rule there is one, and by a symmetric rule the opposite is rounded to the opposite. Assumes nothing.
use mathlib.Core.Path.{◌≡◌, refl, sym, ◌∙◌, ap}
use mathlib.Core.Bool.{Bool, true, false, not}
use Prim.Native.Nat.{ℕ, ◌+◌, ◌*◌, ◌<◌, ◌≤◌}
use native.Mathlib.Nat as NatL
use native.Mathlib.Omega.{arith}
use lib.IntN.{ℤ, pos, neg_ℤ, neg_ℤ-neg_ℤ, nat_abs, ◌+ℤ◌, ◌-ℤ◌, ◌*ℤ◌}
use lib.Signed.{◌≤ℤ◌, ◌<ℤ◌, lt_z}
use Rattle.refusal.specs.Order.{pick}
use Rattle.rounding.specs.Nearest.{Near, Ties, Symmetric, Rounds}
use Rattle.rounding.proofs.Zn.{P, N, v, k, neg, ◌⊕◌, ◌⊖◌, ◌⊗◌, le, unle, unlt, eq, uneq, abs, unabs}
use Rattle.rounding.proofs.Machine.{lt-true, lt-false}

cancel : (d a b : ℕ) → d * a < d * (b + 1) → a ≤ b
cancel d a b h = let l : a < b + 1 = NatL.lt_of_mul-lt-mul_left d h in omega arith

-- ---- a nearest number
-- two values that lie less than L + 1 apart are rounded to numbers at most L + 1 apart
pub near_apart : {d : ℕ} {x y r s : ℤ} (L : ℕ) → Near x d r → Near y d s → nat_abs (x -ℤ y) < (L + 1) * d → nat_abs (r -ℤ s) ≤ L + 1
near_apart {d} {x} {y} {r} {s} L p q h =
    let hp = unabs d p.near (k 2 ⊗ (k d ⊗ v r ⊖ v x)) in
    let hq = unabs d q.near (k 2 ⊗ (k d ⊗ v s ⊖ v y)) in
    let hd = unabs (nat_abs (x -ℤ y)) (NatL.le_refl _) (v x ⊖ v y) in
    abs (v r ⊖ v s) (cancel d (P r + N s) (N r + P s + (L + 1)) (omega arith)) (cancel d (N r + P s) (P r + N s + (L + 1)) (omega arith))

-- a larger value is rounded to no smaller number
pub near-mono : {d : ℕ} {x y r s : ℤ} → Near x d r → Near y d s → x <ℤ y → r ≤ℤ s
near-mono {d} {x} {y} {r} {s} p q h =
    let hp = unabs d p.near (k 2 ⊗ (k d ⊗ v r ⊖ v x)) in
    let hq = unabs d q.near (k 2 ⊗ (k d ⊗ v s ⊖ v y)) in
    let hd = unlt h (v x) (v y) in
    le (v r) (v s) (cancel d (P r + N s) (N r + P s) (omega arith))

-- a value of at most m is rounded to a number of at most m
pub near-size : {d : ℕ} {z r : ℤ} (m : ℕ) → 0 < d → Near z d r → nat_abs z ≤ m * d → nat_abs r ≤ m
near-size {d} {z} {r} m h p l =
    let a = unabs d p.near (k 2 ⊗ (k d ⊗ v r ⊖ v z)) in
    let b = unabs (m * d) l (v z) in
    abs (v r) (cancel d (P r) (N r + m) (omega arith)) (cancel d (N r) (P r + m) (omega arith))

-- a value of at least lo is rounded to a number of at least lo, and one of at most hi to one of at most hi
pub near-least : {d : ℕ} {z r : ℤ} (lo : ℤ) → 0 < d → Near z d r → (lo *ℤ pos d) ≤ℤ z → lo ≤ℤ r
near-least {d} {z} {r} lo h p l =
    let a = unabs d p.near (k 2 ⊗ (k d ⊗ v r ⊖ v z)) in
    let b = unle l (v lo ⊗ k d) (v z) in
    le (v lo) (v r) (cancel d (P lo + N r) (N lo + P r) (omega arith))

pub near-most : {d : ℕ} {z r : ℤ} (hi : ℤ) → 0 < d → Near z d r → z ≤ℤ (hi *ℤ pos d) → r ≤ℤ hi
near-most {d} {z} {r} hi h p l =
    let a = unabs d p.near (k 2 ⊗ (k d ⊗ v r ⊖ v z)) in
    let b = unle l (v z) (v hi ⊗ k d) in
    le (v r) (v hi) (cancel d (P r + N hi) (N r + P hi) (omega arith))

-- the opposite is nearest to the opposite
pub near-opposite : {d : ℕ} {z r : ℤ} → Near z d r → Near (neg_ℤ z) d (neg_ℤ r)
near-opposite {d} {z} {r} p = record {
  near = let a = unabs d p.near (k 2 ⊗ (k d ⊗ v r ⊖ v z)) in abs (k 2 ⊗ (k d ⊗ neg (v r) ⊖ neg (v z))) (omega arith) (omega arith);
}

-- what it means: no whole number is nearer to z/d, in units of 1/d
pub near-closest : {d : ℕ} {z r : ℤ} → Near z d r → (q : ℤ) → nat_abs (pos d *ℤ r -ℤ z) ≤ nat_abs (pos d *ℤ q -ℤ z)
near-closest {d} {z} {r} p q = go (lt_z q r) (lt_z r q) refl refl
  where
    go : (a b : Bool) → lt_z q r ≡ a → lt_z r q ≡ b → nat_abs (pos d *ℤ r -ℤ z) ≤ nat_abs (pos d *ℤ q -ℤ z)
    go true b e f =
        let a = unabs d p.near (k 2 ⊗ (k d ⊗ v r ⊖ v z)) in
        let m = unabs _ (NatL.le_refl (nat_abs (pos d *ℤ q -ℤ z))) (k d ⊗ v q ⊖ v z) in
        let c = NatL.mul-le-mul_left d (unlt (lt-true q r e) (v q) (v r)) in
        abs (k d ⊗ v r ⊖ v z) (omega arith) (omega arith)
    go false true e f =
        let a = unabs d p.near (k 2 ⊗ (k d ⊗ v r ⊖ v z)) in
        let m = unabs _ (NatL.le_refl (nat_abs (pos d *ℤ q -ℤ z))) (k d ⊗ v q ⊖ v z) in
        let c = NatL.mul-le-mul_left d (unlt (lt-true r q f) (v r) (v q)) in
        abs (k d ⊗ v r ⊖ v z) (omega arith) (omega arith)
    go false false e f =
        let x = unle (lt-false q r e) (v r) (v q) in
        let y = unle (lt-false r q f) (v q) (v r) in
        NatL.le_of_eq (ap (λ (n : ℤ). nat_abs (pos d *ℤ n -ℤ z)) (eq (v r) (v q) (omega arith)))

-- two nearest numbers lie on the two sides of a half
pub between : {d : ℕ} {z r s : ℤ} → Near z d r → Near z d s → r <ℤ s → pos 2 *ℤ z ≡ (pos 2 *ℤ r +ℤ pos 1) *ℤ pos d
between {d} {z} {r} {s} p q h =
    let a = unabs d p.near (k 2 ⊗ (k d ⊗ v r ⊖ v z)) in
    let b = unabs d q.near (k 2 ⊗ (k d ⊗ v s ⊖ v z)) in
    let c = NatL.mul-le-mul_left d (unlt h (v r) (v s)) in
    eq (k 2 ⊗ v z) ((k 2 ⊗ v r ⊕ k 1) ⊗ k d) (omega arith)

-- ---- a number rounded by a rule
-- there is one: two would be equal
pub unique : {ties : Ties} {d : ℕ} {z r s : ℤ} → Rounds ties z d r → Rounds ties z d s → r ≡ s
unique {ties} {d} {z} {r} {s} p q = go (lt_z r s) (lt_z s r) refl refl
  where
    go : (a b : Bool) → lt_z r s ≡ a → lt_z s r ≡ b → r ≡ s
    go true b e f = let t = between p.near q.near (lt-true r s e) in p.half r t ∙ sym (q.half r t)
    go false true e f = let t = between q.near p.near (lt-true s r f) in p.half s t ∙ sym (q.half s t)
    go false false e f =
        let x = unle (lt-false r s e) (v s) (v r) in
        let y = unle (lt-false s r f) (v r) (v s) in
        eq (v r) (v s) (omega arith)

-- by a symmetric rule the opposite is rounded to the opposite
pub opposite : {ties : Ties} {d : ℕ} {z r : ℤ} → Symmetric ties → Rounds ties z d r → Rounds ties (neg_ℤ z) d (neg_ℤ r)
opposite {ties} {d} {z} {r} even p = record { near = near-opposite p.near; half = half }
  where
    -- −(t + 1) + 1/2 is −(t + 1/2)
    other : (t : ℤ) → pos 2 *ℤ neg_ℤ z ≡ (pos 2 *ℤ t +ℤ pos 1) *ℤ pos d → pos 2 *ℤ z ≡ (pos 2 *ℤ neg_ℤ (t +ℤ pos 1) +ℤ pos 1) *ℤ pos d
    other t e =
        let f = uneq e (k 2 ⊗ neg (v z)) ((k 2 ⊗ v t ⊕ k 1) ⊗ k d) in
        eq (k 2 ⊗ v z) ((k 2 ⊗ neg (v t ⊕ k 1) ⊕ k 1) ⊗ k d) (omega arith)

    turned : (b : Bool) (t : ℤ) → neg_ℤ (pick (not b) (neg_ℤ (t +ℤ pos 1) +ℤ pos 1) (neg_ℤ (t +ℤ pos 1))) ≡ pick b (t +ℤ pos 1) t
    turned true t = neg_ℤ-neg_ℤ (t +ℤ pos 1)
    turned false t = eq (neg (neg (v t ⊕ k 1) ⊕ k 1)) (v t) (omega arith)

    half : (t : ℤ) → pos 2 *ℤ neg_ℤ z ≡ (pos 2 *ℤ t +ℤ pos 1) *ℤ pos d → neg_ℤ r ≡ pick (ties t) (t +ℤ pos 1) t
    half t e =
        ap neg_ℤ (p.half (neg_ℤ (t +ℤ pos 1)) (other t e))
        ∙ ap (λ (b : Bool). neg_ℤ (pick b (neg_ℤ (t +ℤ pos 1) +ℤ pos 1) (neg_ℤ (t +ℤ pos 1)))) (even.opposite t)
        ∙ turned (ties t) t
