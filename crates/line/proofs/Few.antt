-- One to eight digits in one number of eight bytes, moved up until their last is its last: that they are digits, and what they say. Assumes nothing.
use Rattle.std.proofs.Common.{◌≡◌, ℕ, zero, suc, ◌+◌, ◌-◌, ◌*◌, ◌%◌, ◌^◌, ◌<◌, ◌≤◌, List, length, get_or, refl, ap, ◌∙◌, add-zero, add_assoc, add-suc, pow-suc, add-one, arith, pow-add}
use lib.Bits.{bit_xor}
use Rattle.line.specs.Reading.{together, byte_from, Word, Digits, Clear, Say, Led, Counted}
use Rattle.line.specs.Reading.{higher_halves, sixes, nines, last_four, eight_of, seven_after_zero}
use Rattle.line.proofs.Ahead as L
use Rattle.line.proofs.Numbers.{digit-on}
use Rattle.line.proofs.Words as W
use Rattle.line.proofs.Words.{Bytes, Digit, Spelt, after, behind, apart, digit_from}
use Rattle.line.proofs.Sums as S

-- ---- numbers behind zeros
behind-most : (b j k : ℕ) (g : ℕ → ℕ) → ((i : ℕ) → i < k → g i ≤ b) → (i : ℕ) → i < j + k → behind j g i ≤ b
unfolding behind after
behind-most b zero k g n i h = n i (omega arith)
behind-most b (suc j) k g n zero h = omega arith
behind-most b (suc j) k g n (suc i) h = behind-most b j k g n i (omega arith)

behind-same : (j k : ℕ) (f g : ℕ → ℕ) → ((i : ℕ) → i < k → f i ≡ g i) → (i : ℕ) → i < j + k → behind j f i ≡ behind j g i
unfolding behind after
behind-same zero k f g e i h = e i (omega arith)
behind-same (suc j) k f g e zero h = refl
behind-same (suc j) k f g e (suc i) h = behind-same j k f g e i (omega arith)

behind-at : (j : ℕ) (g : ℕ → ℕ) (i : ℕ) → behind j g (i + j) ≡ g i
unfolding behind after
behind-at zero g i = ap g (add-zero i)
behind-at (suc j) g i = rw (add-suc i j) (behind-at j g i)

behind-bytes : (j : ℕ) {g : ℕ → ℕ} → Bytes 8 g → Bytes 8 (behind j g)
behind-bytes j {g} b i h = omega (arith, behind-most 255 j 8 g (λ i l. omega (arith, b i l)) i (omega arith))

-- ---- moved up by j bytes
once : (y : ℕ) → y * 256 % 18446744073709551616 ≡ seven_after_zero (y % 18446744073709551616)
once y = omega arith

shifted : (j : ℕ) (g : ℕ → ℕ) → Bytes 8 g → together 8 g * 2 ^ (8 * j) % 2 ^ 64 ≡ together 8 (behind j g)
unfolding behind
shifted zero g b = omega (arith, W.below 8 g b)
shifted (suc j) g b =
    let q : 8 * suc j ≡ 8 * j + 8 = omega arith in
    let e : together 8 g * 2 ^ (8 * suc j) ≡ together 8 g * 2 ^ (8 * j) * 256 = rw (q, pow-add 2 (8 * j) 8) (omega arith) in
    ap (λ (n : ℕ). n % 2 ^ 64) e
    ∙ once (together 8 g * 2 ^ (8 * j))
    ∙ ap seven_after_zero (shifted j g b)
    ∙ W.last_off (behind j g) (λ i h. behind-bytes j b i (omega arith))

-- ---- eight bytes without the bits of the digit 0, and the first k of them moved up
abbrev pub bare : ℕ → ℕ
bare w = bit_xor w 3472328296227680304

abbrev pub moved_up : ℕ → ℕ → ℕ
moved_up k w = bare w * 2 ^ (64 - 8 * k) % 2 ^ 64

module _ {s : List ℕ} {p w : ℕ} (d : Word s p w) where
  abbrev parts : ℕ → ℕ
  parts = apart s p (λ i. 48)

  parts-small : Bytes 8 parts
  parts-small = W.apart-small d (λ i. 48) (λ i h. omega arith)

  parts_is : bare w ≡ together 8 parts
  unfolding together
  parts_is = W.apart-is d (λ i. 48) (λ i h. omega arith)

  -- the digit 0 leaves nothing in the lowest
  pub led-by : (bare w % 256 ≡ 0 → ⊥) → Led s p
  unfolding together
  led-by n z =
      let q : get_or s (p + 0) 0 ≡ 48 = rw add-zero z in
      n (ap (λ (m : ℕ). m % 256) parts_is ∙ S.low (together 7 (λ i. parts (suc i))) (parts 0) (parts-small 0 (omega arith)) ∙ rw q refl)

  module _ (k : ℕ) (m : k ≤ 8) (c : Clear higher_halves sixes (moved_up k w)) where
    up_is : moved_up k w ≡ together 8 (behind (8 - k) parts)
    up_is =
        let q : 64 - 8 * k ≡ 8 * (8 - k) = omega arith in
        rw (parts_is, q) (shifted (8 - k) parts parts-small)

    each : (i : ℕ) → i < k → Digit (byte_from s p i)
    each i h =
        W.digit-byte (byte_from s p i)
        (rw (behind-at (8 - k) parts i) at (W.nine-each (behind (8 - k) parts) (behind-bytes (8 - k) parts-small) (rw up_is at c) (i + (8 - k)) (omega arith)))

    pub spelt-few : Spelt k s p (moved_up k w)
    spelt-few =
        record {
          most = m;
          digits = record { low = λ i h. (each i h).low; high = λ i h. (each i h).high };
          is =
              up_is
              ∙ W.same-each 8 (behind (8 - k) parts) (behind (8 - k) (digit_from s p))
              (λ i h. behind-same (8 - k) k parts (digit_from s p) (λ i l. (each i l).is) i (omega arith));
        }

  -- all eight
  pub spelt : Clear higher_halves sixes (bare w) → Spelt 8 s p (bare w)
  spelt c =
      let q : moved_up 8 w ≡ bare w = omega (arith, parts_is, W.below 8 parts parts-small) in
      rw q at (spelt-few 8 (omega arith) (rw (← q) at c))

-- ---- what digits say, the first highest
unfoldable value : ℕ → (ℕ → ℕ) → ℕ
value zero g = 0
value (suc k) g = value k g * 10 + g k

value_after : (k : ℕ) (g : ℕ → ℕ) → value (suc k) (after g) ≡ value k g
unfolding value after
value_after zero g = refl
value_after (suc k) g = ap (λ (n : ℕ). n * 10 + g k) (value_after k g)

value-behind : (j k : ℕ) (g : ℕ → ℕ) → value (k + j) (behind j g) ≡ value k g
unfolding behind
value-behind zero k g = ap (λ (n : ℕ). value n g) (add-zero k)
value-behind (suc j) k g = rw (add-suc k j) (value_after (k + j) (behind j g) ∙ value-behind j k g)

-- where the first is no 0 they say something, and where it is 0 less than a 1 with zeros behind it
value-some : (k : ℕ) (g : ℕ → ℕ) → 0 < k → 0 < g 0 → 0 < value k g
unfolding value
value-some zero g o h = absurd (omega arith)
value-some (suc zero) g o h = omega arith
value-some (suc (suc k)) g o h = omega (arith, value-some (suc k) g (omega arith) h)

value-less : (k : ℕ) (g : ℕ → ℕ) → ((i : ℕ) → i < k → g i ≤ 9) → 0 < k → g 0 ≡ 0 → value k g < 10 ^ (k - 1)
unfolding value
value-less zero g n o e = absurd (omega arith)
value-less (suc zero) g n o e = omega arith
value-less (suc (suc k)) g n o e =
    let q : suc (suc k) - 1 ≡ suc k = omega arith in
    let r : suc k - 1 ≡ k = omega arith in
    let l = rw r at (value-less (suc k) g (λ i h. n i (omega arith)) (omega arith) e) in
    rw (q, pow-suc 10 k) (omega (arith, n (suc k) (omega arith)))

-- eight of them, by sums of neighbours
eight_is : (g : ℕ → ℕ) → ((i : ℕ) → i < 8 → g i ≤ 9) → eight_of (together 8 g) ≡ value 8 g
unfolding value
eight_is g n = let h = S.halves g n in rw (h.0, h.1) (omega arith)

-- ---- the digits of a line
digit-most : {k : ℕ} {s : List ℕ} {p : ℕ} → Digits k s p → (i : ℕ) → i < k → digit_from s p i ≤ 9
digit-most d i h = omega (arith, d.high i h)

moved : {k x : ℕ} {s : List ℕ} {p q v : ℕ} → p ≡ q → Say k x s p v → Say k x s q v
moved e y = rw e at y

none-say : (s : List ℕ) (p : ℕ) → Say 0 1 s p 0
none-say s p = record { less = omega arith; says = λ a v n g. (let e : a * 1 + 0 ≡ a = omega arith in rw (add-zero p, e) at g) }

one-say : {k : ℕ} {s : List ℕ} {p : ℕ} → p + k ≤ length s → Digits k s p → (i : ℕ) → i < k → Say 1 10 s (p + i) (digit_from s p i)
one-say h d i l =
    let lo = d.low i l in
    let hi = d.high i l in
    record { less = omega arith; says = λ a v n g. digit-on a _ g refl (omega arith) lo hi }

say : (k : ℕ) {s : List ℕ} {p : ℕ} → p + k ≤ length s → Digits k s p → Say k (10 ^ k) s p (value k (digit_from s p))
unfolding value
say zero {s} {p} h d = none-say s p
say (suc k) {s} {p} h d =
    rw (pow-suc 10 k, ← add-one k) (L.both (10 ^ k) 10 (say k (omega arith) (L.sooner k 1 (rw (← add-one k) at d))) (one-say h d k (omega arith)))

first-none : (s : List ℕ) (p : ℕ) → get_or s p 0 ≡ 48 → digit_from s p 0 ≡ 0
first-none s p e = let q : get_or s (p + 0) 0 ≡ 48 = rw add-zero e in omega arith

first_above : {k : ℕ} {s : List ℕ} {p : ℕ} → Digits k s p → 0 < k → Led s p → 0 < digit_from s p 0
first_above {k} {s} {p} d o l = let q : get_or s p 0 ≡ get_or s (p + 0) 0 = rw add-zero in omega (arith, d.low 0 o)

-- ---- k digits in one number: how large it is, and what they say
module _ {k : ℕ} {s : List ℕ} {p e : ℕ} (y : Spelt k s p e) where
  abbrev all : ℕ → ℕ
  all = behind (8 - k) (digit_from s p)

  all_most : (i : ℕ) → i < 8 → all i ≤ 9
  all_most i h = behind-most 9 (8 - k) k (digit_from s p) (digit-most y.digits) i (omega (arith, y.most))

  pub small : e ≤ nines
  small = omega (arith, y.is, S.bounded 8 all all_most)

  is-value : eight_of e ≡ value k (digit_from s p)
  is-value =
      let q : 8 ≡ k + (8 - k) = omega (arith, y.most) in
      ap eight_of y.is ∙ eight_is all all_most ∙ ap (λ (n : ℕ). value n all) q ∙ value-behind (8 - k) k (digit_from s p)

  pub says : p + k ≤ length s → Say k (10 ^ k) s p (eight_of e)
  says h = rw is-value (say k h y.digits)

  pub counted : p + k ≤ length s → 0 < k → Led s p → Counted k (10 ^ k) s p (eight_of e)
  counted h o l =
      let z = first_above y.digits o l in
      record { digits = y.digits; led = l; some = rw is-value (value-some k (digit_from s p) o z); says = says h }

  -- the first of them is no 0 where they say so much
  led : 0 < k → 10 ^ (k - 1) ≤ eight_of e → Led s p
  led o l z = omega (arith, is-value, value-less k (digit_from s p) (digit-most y.digits) o (first-none s p z))

  pub counted-least : p + k ≤ length s → 0 < k → 10 ^ (k - 1) ≤ eight_of e → Counted k (10 ^ k) s p (eight_of e)
  counted-least h o l = counted h o (led o l)

-- four digits more, the last of a word of its own
last-say : {s : List ℕ} {q e : ℕ} → Spelt 8 s q e → q + 8 ≤ length s → Say 4 10000 s (q + 4) (last_four e)
unfolding behind value
last-say {s} {q} {e} y h =
    let u : last_four e ≡ value 4 (digit_from s (q + 4))
    = ap last_four y.is ∙ (S.halves (digit_from s q) (digit-most y.digits)).1 ∙ simp add_assoc (omega arith) in
    rw u (say 4 (omega arith) (L.later 4 4 y.digits))

pub longer : (j scale : ℕ) {s : List ℕ} {p v q e : ℕ} → Counted j scale s p v → Spelt 8 s q e → q + 8 ≤ length s → q + 4 ≡ p + j
    → Counted (j + 4) (scale * 10000) s p (v * 10000 + last_four e)
longer j scale {s} {p} {v} {q} {e} c y h r =
    record {
      digits = L.joined j 4 s p c.digits (rw r at (L.later 4 4 y.digits));
      led = c.led;
      some = omega (arith, c.some);
      says = L.both scale 10000 c.says (moved r (last-say y h));
    }
