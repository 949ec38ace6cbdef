-- Digits several at a time. Assumes nothing.
use Rattle.std.proofs.Common.{◌≡◌, ℕ, zero, suc, ◌+◌, ◌-◌, ◌*◌, ◌^◌, ◌<◌, ◌≤◌, Bool, true, false, not, ◌||◌, List, length, get_or, sym, refl, add-zero, mul-le-mul_right, pow-suc, arith}
use native.Mathlib.Decide.{dec_lt}
use Rattle.line.specs.Reading.{Digits, Say, Carried}
use Rattle.line.proofs.Numbers.{digit-on}

-- ---- tests joined by `|`
pub or_left : (a b : Bool) → (a || b) ≡ false → a ≡ false
or_left false b e = refl
or_left true b e = e

pub or_right : (a b : Bool) → (a || b) ≡ false → b ≡ false
or_right false b e = e
or_right true b e = let w : ◌≡◌ {A = ℕ} 0 1 = cc in absurd (omega arith)

pub not-true : (a : Bool) → not a ≡ true → a ≡ false
not-true false e = refl
not-true true e = sym e

pub joined : (j k : ℕ) (s : List ℕ) (p : ℕ) → Digits j s p → Digits k s (p + j) → Digits (j + k) s p
joined j k s p a b = record { low = λ i h. low i h (dec_lt i j); high = λ i h. high i h (dec_lt i j) }
  where
    low : (i : ℕ) → i < j + k → Dec (i < j) → 48 ≤ get_or s (p + i) 0
    low i h (yes l) = a.low i l
    low i h (no l) = let q : p + j + (i - j) ≡ p + i = omega arith in rw q at (b.low (i - j) (omega arith))

    high : (i : ℕ) → i < j + k → Dec (i < j) → get_or s (p + i) 0 ≤ 57
    high i h (yes l) = a.high i l
    high i h (no l) = let q : p + j + (i - j) ≡ p + i = omega arith in rw q at (b.high (i - j) (omega arith))

pub later : (j k : ℕ) {s : List ℕ} {p : ℕ} → Digits (j + k) s p → Digits k s (p + j)
later j k {s} {p} d =
    record {
      low = λ i h. (let q : p + (j + i) ≡ p + j + i = omega arith in rw q at (d.low (j + i) (omega arith)));
      high = λ i h. (let q : p + (j + i) ≡ p + j + i = omega arith in rw q at (d.high (j + i) (omega arith)));
    }

pub sooner : (j k : ℕ) {s : List ℕ} {p : ℕ} → Digits (j + k) s p → Digits j s p
sooner j k d = record { low = λ i h. d.low i (omega arith); high = λ i h. d.high i (omega arith) }

-- ---- one digit, and several
pub digit : (s : List ℕ) (p : ℕ) → p < length s → Digits 1 s p → Say 1 10 s p (get_or s p 0 - 48)
digit s p h d =
    let l : 48 ≤ get_or s p 0 = rw add-zero at (d.low 0 (omega arith)) in
    let m : get_or s p 0 ≤ 57 = rw add-zero at (d.high 0 (omega arith)) in
    record { less = omega arith; says = λ a v n g. digit-on a _ g refl h l m }

-- j digits and then k are j + k digits
pub both : (x y : ℕ) {j k : ℕ} {s : List ℕ} {p v w : ℕ} → Say j x s p v → Say k y s (p + j) w → Say (j + k) (x * y) s p (v * y + w)
both x y {j} {k} {s} {p} {v} {w} c d =
    record {
      less = omega (arith, mul-le-mul_right y c.less, d.less);
      says = λ a. (
          let e : (a * x + v) * y + w ≡ a * (x * y) + (v * y + w) = omega arith in
          let q : p + j + k ≡ p + (j + k) = omega arith in
          λ u n g. c.says a u n (d.says (a * x + v) u n (rw (e, q) g)));
    }

-- ---- a first digit, and those after it
pub unmoved : (s : List ℕ) (p a : ℕ) → a < 1000000000 → Carried s p a p a
unmoved s p a h = record { same = λ v n g. g; small = h }

pub carry : (x : ℕ) {k : ℕ} {s : List ℕ} {p a q b v : ℕ} → Carried s p a q b → Say k x s q v → b * x + v < 1000000000 → Carried s p a (q + k) (b * x + v)
carry x {b = b} c d h = record { same = λ v n g. c.same v n (d.says b v n g); small = h }

-- ---- up to four digits more, of which l have come
pub grown : (l a d : ℕ) → a < 10 ^ (9 + l) → d ≤ 9 → a * 10 + d < 10 ^ (9 + (l + 1))
grown l a d b e =
    let q : 9 + (l + 1) ≡ suc (9 + l) = omega arith in
    let p = pow-suc 10 (9 + l) in
    rw q (omega arith)

most : (l : ℕ) → l ≤ 4 → 10 ^ (9 + l) ≤ 10000000000000
most zero h = omega arith
most (suc zero) h = omega arith
most (suc (suc zero)) h = omega arith
most (suc (suc (suc zero))) h = omega arith
most (suc (suc (suc (suc zero)))) h = omega arith
most (suc (suc (suc (suc (suc l))))) h = absurd (omega arith)

pub below-cap : (l a : ℕ) → l ≤ 4 → a < 10 ^ (9 + l) → a < 10000000000000
below-cap l a m b = omega (arith, most l m)
