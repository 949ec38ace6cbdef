-- What eight digits in one number say, by sums of neighbours side by side. Assumes nothing.
use Rattle.std.proofs.Common.{◌≡◌, ℕ, zero, suc, ◌+◌, ◌*◌, ◌/◌, ◌%◌, ◌^◌, ◌<◌, ◌≤◌, ap, ◌∙◌, add-zero, pow-suc, arith}
use lib.Bits.{bit_and, and_block, and_mask}
use Rattle.line.specs.Reading.{together, pair_sums, four_sums}

-- eight numbers, the first lowest
abbrev side : (a b c d e f g h : ℕ) → ℕ
side a b c d e f g h = ((((((h * 256 + g) * 256 + f) * 256 + e) * 256 + d) * 256 + c) * 256 + b) * 256 + a

side-is : (f : ℕ → ℕ) → together 8 f ≡ side (f 0) (f 1) (f 2) (f 3) (f 4) (f 5) (f 6) (f 7)
unfolding together
side-is f = omega arith

-- every second byte of four pairs of bytes
second : (a b c d : ℕ) → a < 65536 → b < 65536 → c < 65536 → d < 65536
    → bit_and (((d * 65536 + c) * 65536 + b) * 65536 + a) 71777214294589695 ≡ ((d % 256 * 65536 + c % 256) * 65536 + b % 256) * 65536 + a % 256
second a b c d ha hb hc hd =
    let x = and_block 16 ((d * 65536 + c) * 65536 + b) 1095233372415 a 255 ha (omega arith) in
    let y = and_block 16 (d * 65536 + c) 16711935 b 255 hb (omega arith) in
    let z = and_block 16 d 255 c 255 hc (omega arith) in
    x ∙ rw (y, z, and_mask a 8, and_mask b 8, and_mask c 8, and_mask d 8)

pub low : (x y : ℕ) → y < 256 → (x * 256 + y) % 256 ≡ y
low x y h = omega arith

past : (x y : ℕ) → y < 256 → (x * 256 + y) / 256 ≡ x
past x y h = omega arith

low-pair : (x y : ℕ) → y < 65536 → (x * 65536 + y) % 65536 ≡ y
low-pair x y h = omega arith

past-pair : (x y : ℕ) → y < 65536 → (x * 65536 + y) / 65536 ≡ x
past-pair x y h = omega arith

-- each digit with the one after it
neighbours : (a b c d e f g h : ℕ)
    → side a b c d e f g h * 10 + ((((((h * 256 + g) * 256 + f) * 256 + e) * 256 + d) * 256 + c) * 256 + b)
    ≡ (((h * 10 * 256 + (g * 10 + h)) * 65536 + ((f * 10 + g) * 256 + (e * 10 + f))) * 65536 + ((d * 10 + e) * 256 + (c * 10 + d))) * 65536 + ((b * 10 + c) * 256 + (a * 10 + b))
neighbours a b c d e f g h = omega arith

pairs : (a b c d e f g h : ℕ) → a ≤ 9 → b ≤ 9 → c ≤ 9 → d ≤ 9 → e ≤ 9 → f ≤ 9 → g ≤ 9 → h ≤ 9
    → pair_sums (side a b c d e f g h) ≡ (((g * 10 + h) * 65536 + (e * 10 + f)) * 65536 + (c * 10 + d)) * 65536 + (a * 10 + b)
unfolding pair_sums
pairs a b c d e f g h la lb lc ld le lf lg lh =
    let n = past ((((((h * 256 + g) * 256 + f) * 256 + e) * 256 + d) * 256 + c) * 256 + b) a (omega (arith, la)) in
    ap (λ (n : ℕ). bit_and n 71777214294589695) (ap (λ (n : ℕ). side a b c d e f g h * 10 + n) n ∙ neighbours a b c d e f g h)
    ∙ second ((b * 10 + c) * 256 + (a * 10 + b)) ((d * 10 + e) * 256 + (c * 10 + d)) ((f * 10 + g) * 256 + (e * 10 + f))
    (h * 10 * 256 + (g * 10 + h)) (two b c a b lb lc la lb) (two d e c d ld le lc ld) (two f g e f lf lg le lf)
    (rw (add-zero (h * 10)) at (two h 0 g h lh (omega arith) lg lh))
    ∙ rw (
      low (b * 10 + c) (a * 10 + b) (one a b la lb),
      low (d * 10 + e) (c * 10 + d) (one c d lc ld),
      low (f * 10 + g) (e * 10 + f) (one e f le lf),
      low (h * 10) (g * 10 + h) (one g h lg lh),
    )
  where
    one : (x y : ℕ) → x ≤ 9 → y ≤ 9 → x * 10 + y < 256
    one x y hx hy = omega (arith, hx, hy)

    two : (x y z w : ℕ) → x ≤ 9 → y ≤ 9 → z ≤ 9 → w ≤ 9 → (x * 10 + y) * 256 + (z * 10 + w) < 65536
    two x y z w hx hy hz hw = omega (arith, hx, hy, hz, hw)

past_two : (x b a : ℕ) → b < 65536 → a < 65536 → ((x * 65536 + b) * 65536 + a) / 4294967296 ≡ x
past_two x b a hb ha = omega arith

beside : (a b c d : ℕ)
    → (((d * 65536 + c) * 65536 + b) * 65536 + a) * 100 + ((d * 65536 + c) * 65536 + b)
    ≡ ((d * 100 * 65536 + (c * 100 + d)) * 65536 + (b * 100 + c)) * 65536 + (a * 100 + b)
beside a b c d = omega arith

-- the first four and the last
abbrev pub ends : ℕ → ℕ → ℕ → Type 0
ends y m n = (y % 65536 ≡ m) × (y / 4294967296 % 65536 ≡ n)

fours : (x a b c d : ℕ) → x ≡ ((d * 65536 + c) * 65536 + b) * 65536 + a → a ≤ 99 → b ≤ 99 → c ≤ 99 → d ≤ 99
    → ends (x * 100 + x / 65536) (a * 100 + b) (c * 100 + d)
fours x a b c d is ha hb hc hd =
    let e : x * 100 + x / 65536 ≡ ((d * 100 * 65536 + (c * 100 + d)) * 65536 + (b * 100 + c)) * 65536 + (a * 100 + b)
    = ap (λ (n : ℕ). n * 100 + n / 65536) is
    ∙ ap (λ (n : ℕ). (((d * 65536 + c) * 65536 + b) * 65536 + a) * 100 + n) (past-pair ((d * 65536 + c) * 65536 + b) a (omega (arith, ha))) ∙ beside a b c d in
    rw e (
      low-pair ((d * 100 * 65536 + (c * 100 + d)) * 65536 + (b * 100 + c)) (a * 100 + b) (small a b ha hb),
      ap (λ (n : ℕ). n % 65536) (past_two (d * 100 * 65536 + (c * 100 + d)) (b * 100 + c) (a * 100 + b) (small b c hb hc) (small a b ha hb))
          ∙ low-pair (d * 100) (c * 100 + d) (small c d hc hd),
    )
  where
    small : (x y : ℕ) → x ≤ 99 → y ≤ 99 → x * 100 + y < 65536
    small x y hx hy = omega (arith, hx, hy)

-- two digits of g, and four
abbrev pub two_of : (ℕ → ℕ) → ℕ → ℕ
two_of g i = g i * 10 + g (i + 1)

abbrev pub four_of : (ℕ → ℕ) → ℕ → ℕ
four_of g i = two_of g i * 100 + two_of g (i + 2)

pub halves : (g : ℕ → ℕ) → ((i : ℕ) → i < 8 → g i ≤ 9) → ends (four_sums (together 8 g)) (four_of g 0) (four_of g 4)
unfolding four_sums
halves g n =
    fours _ _ _ _ _
    (ap pair_sums (side-is g)
    ∙ pairs _ _ _ _ _ _ _ _ (n 0 (omega arith)) (n 1 (omega arith)) (n 2 (omega arith)) (n 3 (omega arith))
    (n 4 (omega arith)) (n 5 (omega arith)) (n 6 (omega arith)) (n 7 (omega arith)))
    (most 0 (omega arith)) (most 2 (omega arith)) (most 4 (omega arith)) (most 6 (omega arith))
  where
    most : (i : ℕ) → i + 1 < 8 → two_of g i ≤ 99
    most i h = omega (arith, n i (omega arith), n (i + 1) h)

pub bounded : (k : ℕ) (f : ℕ → ℕ) → ((i : ℕ) → i < k → f i ≤ 9) → together k f * 255 + 9 ≤ 9 * 256 ^ k
unfolding together
bounded zero f b = omega arith
bounded (suc k) f b =
    let e = bounded k (λ i. f (suc i)) (λ i h. b (suc i) (omega arith)) in
    let l = b 0 (omega arith) in
    let p = pow-suc 256 k in
    omega arith
