-- How long a written line can be.
use Rattle.std.proofs.Common.{◌≡◌, ℕ, zero, suc, ◌+◌, ◌*◌, ◌/◌, ◌%◌, ◌^◌, ◌<◌, ◌≤◌, Bool, true, false, ◌||◌, eqb, [], ◌∷◌, length, ℤ, pos, negsuc, nat_abs, sym, refl, ap, pow-suc, arith, length-append}
use native.Mathlib.Decide.{dec_lt}
use Rattle.refusal.specs.Order.{pick}
use Rattle.chain.specs.declared.Id.{Id}
use Rattle.chain.specs.declared.Point.{Point}
use Rattle.ranges.proofs.Ranges.{natural, up-to}
use Rattle.ranges.specs.Ranges.{within, given_range}
use Rattle.chain.specs.Faults.{point_fault}
use Rattle.chain.proofs.PointLaws.{InRanges, in-ranges}
use Rattle.line.specs.Text.{decimal, integer, highest, letters, name_text, point_text, projected_text, refusal_text}
use Rattle.line.proofs.Texts as T

-- ---- numbers and names
pub length-decimal : (k n : ℕ) → n < 10 ^ suc k → length (decimal n) ≤ suc k
length-decimal zero n h = omega (arith, ap length (T.decimal-one n h))
length-decimal (suc k) n h = go (dec_lt n 10) (λ l. length-decimal k (n / 10) l)
  where
    go : Dec (n < 10) → (n / 10 < 10 ^ suc k → length (decimal (n / 10)) ≤ suc k) → length (decimal n) ≤ suc (suc k)
    go (yes l) on = omega (arith, ap length (T.decimal-one n l))
    go (no l) on =
        let e = pow-suc 10 (suc k) in
        let i = on (omega arith) in
        omega (arith, ap length (T.decimal-more n (omega arith)), length-append (decimal (n / 10)) ((48 + n % 10) ∷ []))

pub length-integer : (k : ℕ) (z : ℤ) → nat_abs z < 10 ^ suc k → length (integer z) ≤ suc (suc k)
unfolding integer
length-integer k (pos n) h = omega (arith, length-decimal k n h)
length-integer k (negsuc n) h = omega (arith, length-decimal k (suc n) h)

-- a number that cannot be negative
length-plus : (k : ℕ) (a b : ℕ) (z : ℤ) → b < 10 ^ suc k → within (pos a) z (pos b) ≡ true → length (integer z) ≤ suc k
unfolding integer
length-plus k a b z h e =
    let p = natural a z b e in
    let l = p.high in
    rw p.is (length-decimal k p.n (omega arith))

length-letters : (k w : ℕ) → length (letters k w) ≤ k
unfolding letters
length-letters zero w = omega arith
length-letters (suc k) w = go (eqb (w / highest) 0) (length-letters k (w % highest * 256))
  where
    go : (t : Bool) → length (letters k (w % highest * 256)) ≤ k → length (pick t [] (w / highest ∷ letters k (w % highest * 256))) ≤ suc k
    go true h = omega arith
    go false h = omega arith

pub length-name : (id : Id) → length (name_text id) ≤ 16
unfolding name_text
length-name id = omega (arith, length-append (letters 8 id.high) (letters 8 id.low), length-letters 8 id.high, length-letters 8 id.low)

-- ---- lines
module _ (y : ℤ) (p : Point) (none : point_fault y p ≡ 0) where
  numbers : InRanges p
  numbers = in-ranges y p none

  length-epoch : length (integer p.realization.epoch) ≤ 7
  length-epoch = go (within (pos 0) p.realization.epoch (pos 0)) refl numbers.epoch
    where
      go : (b : Bool) → within (pos 0) p.realization.epoch (pos 0) ≡ b → (b || within (pos 1980000) p.realization.epoch (pos 2100000)) ≡ true → length (integer p.realization.epoch) ≤ 7
      go true q t = omega (arith, length-plus 0 0 0 p.realization.epoch (omega arith) q)
      go false q t = length-plus 6 1980000 2100000 p.realization.epoch (omega arith) t

  length-coordinate : (z : ℤ) → given_range z ≡ true → length (integer z) ≤ 13
  length-coordinate z e = length-integer 11 z (omega (arith, up-to 640000000000 z e))

  -- a point line, written for a point with no fault: at most 80 bytes
  pub length-point : length (point_text p) ≤ 80
  length-point =
      rw (sym (T.point-is p))
      (simp length-append
      (omega (arith, length-name p.label.id, length-plus 4 1 65535 p.label.issue (omega arith) numbers.issue, length-plus 0 1 4 p.label.order (omega arith) numbers.order, length-plus 1 1 10 p.realization.datum (omega arith) numbers.datum, length-epoch, length-coordinate p.position.x numbers.x, length-coordinate p.position.y numbers.y, length-coordinate p.position.z numbers.z)))

-- a projected line of numbers below 10^18 in size: at most 60 bytes
pub length-projected : (id : Id) (e n : ℤ) → nat_abs e < 10 ^ 18 → nat_abs n < 10 ^ 18 → length (projected_text id e n) ≤ 60
length-projected id e n h k =
    rw (sym (T.projected-is id e n)) (simp length-append (omega (arith, length-name id, length-integer 17 e h, length-integer 17 n k)))

-- a refusal line of a line number below 100,000: at most 12 bytes and the digits of the place
pub length-refusal : (line number place k : ℕ) → line < 100000 → number < 100 → place < 10 ^ suc k → length (refusal_text line number place) ≤ 12 + suc k
length-refusal line number place k h i j =
    rw (sym (T.refusal_is line number place)) (simp length-append (omega (arith, length-decimal 4 line h, length-decimal 1 number i, length-decimal k place j)))
