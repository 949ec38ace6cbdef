-- Numbers may be carried another way, up to a cap for one. Where no range tells a number from the number as it is carried, and a number in its range is carried as
-- it is, the same holds of each range of the table, and of tests and faults made of them. Assumes nothing.
use Prim.Native.Nat.{ℕ, zero, suc, ◌≤◌}
use mathlib.Core.Path.{◌≡◌, refl}
use mathlib.Core.Bool.{Bool, true, false, ◌&&◌, ◌||◌}
use lib.IntN.{ℤ, pos, neg_ℤ, nat_abs}
use native.Mathlib.Omega.{arith}
use Rattle.ranges.specs.Ranges.{within, up_to, datum_range, epoch_range, issue_range, order_range, given_range, shift_range, velocity_range, rotation_range, scale_range, ellipsoid_range, offset_range, latitude_range, longitude_range}
use Rattle.ranges.proofs.Ranges.{all}

-- ---- a test that cannot tell a value from the value as it is carried, and passes only where the two are one
pub record Sure {A : Type 0} (carried : A → A) (test : A → Bool) : Type 0 where
  pub same : (a : A) → test (carried a) ≡ test a
  pub kept : (a : A) → test a ≡ true → carried a ≡ a

-- a fault likewise: it finds none only where the two are one
pub record Careful {A : Type 0} (fault_of : A → ℕ) (carried : A → A) : Type 0 where
  pub same : (a : A) → fault_of (carried a) ≡ fault_of a
  pub kept : (a : A) → fault_of a ≡ 0 → carried a ≡ a

-- ---- tests together
pub same-both : {a b c d : Bool} → a ≡ c → b ≡ d → (a && b) ≡ (c && d)
same-both e f = rw (e, f)

pub sure-either : {A : Type 0} {carried : A → A} {s t : A → Bool} → Sure carried s → Sure carried t → Sure carried (λ a. s a || t a)
sure-either {A} {carried} {s} {t} p q =
    record { same = λ a. rw (p.same a, q.same a); kept = λ a e. go a (s a) refl e }
  where
    go : (a : A) (b : Bool) → s a ≡ b → (b || t a) ≡ true → carried a ≡ a
    go a true e f = p.kept a e
    go a false e f = q.kept a f

-- three numbers of one range
module _ {carried : ℤ → ℤ} {test : ℤ → Bool} (p : Sure carried test) where
  pub three-same : (x y z : ℤ) → (test (carried x) && test (carried y) && test (carried z)) ≡ (test x && test y && test z)
  three-same x y z = same-both (same-both (p.same x) (p.same y)) (p.same z)

  pub three-kept : (x y z : ℤ) → (test x && test y && test z) ≡ true → (carried x ≡ x) × (carried y ≡ y) × (carried z ≡ z)
  three-kept x y z e = let s = all (test x) (test y) (test z) e in (p.kept x s.0, p.kept y s.1, p.kept z s.2)

-- ---- a way to carry numbers that no range of the table tells: none has an end past this
abbrev pub widest : ℕ
widest = 640000000000

pub record Carries (carried : ℤ → ℤ) : Type 0 where
  pub sure : (lo hi : ℤ) → nat_abs lo ≤ widest → nat_abs hi ≤ widest → Sure carried (λ z. within lo z hi)

abs_neg : (n : ℕ) → nat_abs (neg_ℤ (pos n)) ≡ n
abs_neg zero = refl
abs_neg (suc n) = refl

module _ {carried : ℤ → ℤ} (c : Carries carried) where
  sure-up : (m : ℕ) → m ≤ widest → Sure carried (up_to m)
  sure-up m h = c.sure (neg_ℤ (pos m)) (pos m) (omega (arith, abs_neg m)) h

  pub sure-datum : Sure carried datum_range
  sure-datum = c.sure (pos 1) (pos 10) (omega arith) (omega arith)

  pub sure-epoch : Sure carried epoch_range
  sure-epoch = sure-either (c.sure (pos 0) (pos 0) (omega arith) (omega arith)) (c.sure (pos 1980000) (pos 2100000) (omega arith) (omega arith))

  pub sure-issue : Sure carried issue_range
  sure-issue = c.sure (pos 1) (pos 65535) (omega arith) (omega arith)

  pub sure-order : Sure carried order_range
  sure-order = c.sure (pos 1) (pos 4) (omega arith) (omega arith)

  pub sure-given : Sure carried given_range
  sure-given = sure-up 640000000000 (omega arith)

  pub sure-shift : Sure carried shift_range
  sure-shift = sure-up 100000000 (omega arith)

  pub sure-velocity : Sure carried velocity_range
  sure-velocity = sure-up 10000 (omega arith)

  pub sure-rotation : Sure carried rotation_range
  sure-rotation = sure-up 1000000 (omega arith)

  pub sure-scale : Sure carried scale_range
  sure-scale = sure-up 2000000 (omega arith)

  pub sure-latitude : Sure carried latitude_range
  sure-latitude = c.sure (pos 0) (pos 2880000000) (omega arith) (omega arith)

  pub sure-longitude : Sure carried longitude_range
  sure-longitude = c.sure (pos 35640000000) (pos 43200000000) (omega arith) (omega arith)

  pub sure-ellipsoid : Sure carried ellipsoid_range
  sure-ellipsoid = c.sure (pos 1) (pos 4) (omega arith) (omega arith)

  pub sure-offset : Sure carried offset_range
  sure-offset = sure-up 2000000000 (omega arith)
