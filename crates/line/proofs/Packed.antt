-- Digits side by side in one number. Assumes nothing.
use Rattle.std.proofs.Common.{◌≡◌, ℕ, ◌+◌, ◌-◌, ◌*◌, ◌/◌, ◌%◌, ◌<◌, ◌≤◌, ◌++◌, ap, ◌∙◌, ap₂, arith}
use lib.Bits.{bit_and, and_block, and_mask}
use Rattle.line.specs.Text.{two, eight, half_bytes, word_bytes, Pairs, pairs_of, Half, Spread}

-- ---- pairs out of fours
hundred : (x : ℕ) → x < 10000 → x * 10486 / 1048576 ≡ x / 100
hundred x h = omega arith

low-hundred : (k q : ℕ) → q < 128 → (k * 4096 + q) % 128 ≡ q
low-hundred k q h = omega arith

keep-hundred : (q : ℕ) → q < 128 → q % 128 ≡ q
keep-hundred q h = omega arith

pub hundreds-is : (a b : ℕ) → a < 10000 → b < 10000 → bit_and ((b * 4294967296 + a) * 10486 / 1048576) 545460846719 ≡ b / 100 * 4294967296 + a / 100
hundreds-is a b ha hb =
    let e : (b * 4294967296 + a) * 10486 / 1048576 ≡ b * 10486 / 1048576 * 4294967296 + (b * 10486 % 1048576 * 4096 + a * 10486 / 1048576) = omega arith in
    let x : b * 10486 / 1048576 % 128 ≡ b / 100 = keep-hundred (b * 10486 / 1048576) (omega (arith, hundred b hb)) ∙ hundred b hb in
    let y : (b * 10486 % 1048576 * 4096 + a * 10486 / 1048576) % 128 ≡ a / 100 = low-hundred (b * 10486 % 1048576) (a * 10486 / 1048576) (omega (arith, hundred a ha)) ∙ hundred a ha in
    ap (λ (n : ℕ). bit_and n 545460846719) e
    ∙ and_block 32 (b * 10486 / 1048576) 127 (b * 10486 % 1048576 * 4096 + a * 10486 / 1048576) 127 (omega arith) (omega arith)
    ∙ rw (and_mask (b * 10486 / 1048576) 7, and_mask (b * 10486 % 1048576 * 4096 + a * 10486 / 1048576) 7, x, y)

-- ---- digits out of pairs
ten : (p : ℕ) → p < 100 → p * 103 / 1024 ≡ p / 10
ten p h = omega arith

low-ten : (k q : ℕ) → q < 16 → (k * 64 + q) % 16 ≡ q
low-ten k q h = omega arith

keep-ten : (q : ℕ) → q < 16 → q % 16 ≡ q
keep-ten q h = omega arith

one-ten : (h m p : ℕ) → p < 100 → bit_and ((h * 65536 + p) * 103 / 1024) (m * 65536 + 15) ≡ bit_and (h * 103 / 1024) m * 65536 + p / 10
one-ten h m p l =
    let e : (h * 65536 + p) * 103 / 1024 ≡ h * 103 / 1024 * 65536 + (h * 103 % 1024 * 64 + p * 103 / 1024) = omega arith in
    let x : (h * 103 % 1024 * 64 + p * 103 / 1024) % 16 ≡ p / 10 = low-ten (h * 103 % 1024) (p * 103 / 1024) (omega (arith, ten p l)) ∙ ten p l in
    ap (λ (n : ℕ). bit_and n (m * 65536 + 15)) e
    ∙ and_block 16 (h * 103 / 1024) m (h * 103 % 1024 * 64 + p * 103 / 1024) 15 (omega (arith, ten p l)) (omega arith)
    ∙ rw (and_mask (h * 103 % 1024 * 64 + p * 103 / 1024) 4, x)

last-ten : (p : ℕ) → p < 100 → bit_and (p * 103 / 1024) 15 ≡ p / 10
last-ten p l = and_mask (p * 103 / 1024) 4 ∙ keep-ten (p * 103 / 1024) (omega (arith, ten p l)) ∙ ten p l

-- four numbers, the first lowest
abbrev side : (a b c d : ℕ) → ℕ
side a b c d = ((d * 65536 + c) * 65536 + b) * 65536 + a

tens-is : (a b c d : ℕ) → a < 100 → b < 100 → c < 100 → d < 100 → bit_and (side a b c d * 103 / 1024) 4222189076152335 ≡ side (a / 10) (b / 10) (c / 10) (d / 10)
tens-is a b c d ha hb hc hd =
    one-ten ((d * 65536 + c) * 65536 + b) 64425492495 a ha
    ∙ ap (λ (n : ℕ). n * 65536 + a / 10) (one-ten (d * 65536 + c) 983055 b hb ∙ ap (λ (n : ℕ). n * 65536 + b / 10) (one-ten d 15 c hc ∙ ap (λ (n : ℕ). n * 65536 + c / 10) (last-ten d hd)))

-- a pair's two digits in two bytes
abbrev both : ℕ → ℕ
both p = p * 256 + 12336 - p / 10 * 2559

spread-side : (a b c d : ℕ) → a < 100 → b < 100 → c < 100 → d < 100 → side a b c d * 256 - side (a / 10) (b / 10) (c / 10) (d / 10) * 2559 + 3472328296227680304 ≡ side (both a) (both b) (both c) (both d)
spread-side a b c d ha hb hc hd = omega arith

both_is : (p : ℕ) → p < 100 → both p ≡ (48 + p % 10) * 256 + (48 + p / 10)
both_is p h = omega arith

low_byte : (y hi lo : ℕ) → lo < 256 → (y * 65536 + (hi * 256 + lo)) % 256 ≡ lo
low_byte y hi lo h = omega arith

next-byte : (y hi lo : ℕ) → hi < 256 → lo < 256 → (y * 65536 + (hi * 256 + lo)) / 256 % 256 ≡ hi
next-byte y hi lo h k = omega arith

past-pair : (y m : ℕ) → m < 65536 → (y * 65536 + m) / 65536 ≡ y
past-pair y m h = omega arith

small-pair : (p : ℕ) → p < 100 → both p < 65536
small-pair p h = omega arith

first_of : (y p : ℕ) → p < 100 → (y * 65536 + both p) % 256 ≡ 48 + p / 10
first_of y p h = ap (λ (n : ℕ). (y * 65536 + n) % 256) (both_is p h) ∙ low_byte y (48 + p % 10) (48 + p / 10) (omega arith)

second-of : (y p : ℕ) → p < 100 → (y * 65536 + both p) / 256 % 256 ≡ 48 + p % 10
second-of y p h = ap (λ (n : ℕ). (y * 65536 + n) / 256 % 256) (both_is p h) ∙ next-byte y (48 + p % 10) (48 + p / 10) (omega arith) (omega arith)

half_is : (x a b : ℕ) → a < 100 → b < 100 → Half ((x * 65536 + both b) * 65536 + both a) a b
half_is x a b ha hb =
    let q = past-pair (x * 65536 + both b) (both a) (small-pair a ha) in
    record {
      one = first_of (x * 65536 + both b) a ha;
      two = second-of (x * 65536 + both b) a ha;
      three = ap (λ (n : ℕ). n % 256) q ∙ first_of x b hb;
      four = ap (λ (n : ℕ). n / 256 % 256) q ∙ second-of x b hb;
    }

past_two : (y m n : ℕ) → m < 65536 → n < 65536 → ((y * 65536 + m) * 65536 + n) / 4294967296 ≡ y
past_two y m n h k = omega arith

past-half : (x a b : ℕ) → a < 100 → b < 100 → ((x * 65536 + both b) * 65536 + both a) / 4294967296 ≡ x
past-half x a b ha hb = past_two x (both b) (both a) (small-pair b hb) (small-pair a ha)

split : (w : ℕ) → w ≡ side (w % 65536) (w / 65536 % 65536) (w / 4294967296 % 65536) (w / 281474976710656)
split w = omega arith

abbrev pub tens_of : ℕ → ℕ
tens_of w = bit_and (w * 103 / 1024) 4222189076152335

pub tens-side : (w : ℕ) → Pairs w → tens_of w ≡ side (w % 65536 / 10) (w / 65536 % 65536 / 10) (w / 4294967296 % 65536 / 10) (w / 281474976710656 / 10)
tens-side w h = ap tens_of (split w) ∙ tens-is _ _ _ _ h.0 h.1 h.2 h.3

pub tens-less : (w : ℕ) → Pairs w → tens_of w * 2559 ≤ w * 256
tens-less w h = omega (arith, tens-side w h, split w)

pub spread-is : (w : ℕ) → Pairs w → Spread w (w * 256 - tens_of w * 2559 + 3472328296227680304)
spread-is w h =
    let a = w % 65536 in
    let b = w / 65536 % 65536 in
    let c = w / 4294967296 % 65536 in
    let d = w / 281474976710656 in
    let e : w * 256 - tens_of w * 2559 + 3472328296227680304 ≡ side (both a) (both b) (both c) (both d)
    = ap₂ (λ (n t : ℕ). n * 256 - t * 2559 + 3472328296227680304) (split w) (tens-side w h) ∙ spread-side a b c d h.0 h.1 h.2 h.3 in
    let p : side (both a) (both b) (both c) (both d) / 4294967296 ≡ (0 * 65536 + both d) * 65536 + both c = past-half (both d * 65536 + both c) a b h.0 h.1 ∙ omega arith in
    rw e (record { low = half_is (both d * 65536 + both c) a b h.0 h.1; high = rw p (half_is 0 c d h.2 h.3) })

-- ---- pairs taken apart
side-parts : (a b c d : ℕ) → a < 65536 → b < 65536 → c < 65536 → (side a b c d % 65536 ≡ a) × (side a b c d / 65536 % 65536 ≡ b) × (side a b c d / 4294967296 % 65536 ≡ c) × (side a b c d / 281474976710656 ≡ d)
side-parts a b c d ha hb hc = (omega arith, omega arith, omega arith, omega arith)

pub pairs_is : (a b : ℕ) → a < 10000 → b < 10000 → (b * 4294967296 + a) * 65536 - (b / 100 * 4294967296 + a / 100) * 6553599 ≡ side (a / 100) (a % 100) (b / 100) (b % 100)
pairs_is a b ha hb = omega arith

module _ (n : ℕ) (h : n < 100000000) where
  parts : (pairs_of n % 65536 ≡ n / 10000 / 100) × (pairs_of n / 65536 % 65536 ≡ n / 10000 % 100) × (pairs_of n / 4294967296 % 65536 ≡ n % 10000 / 100) × (pairs_of n / 281474976710656 ≡ n % 10000 % 100)
  parts = side-parts (n / 10000 / 100) (n / 10000 % 100) (n % 10000 / 100) (n % 10000 % 100) (omega arith) (omega arith) (omega arith)

  pub pairs-good : Pairs (pairs_of n)
  pairs-good = (rw parts.0 (omega arith), rw parts.1 (omega arith), rw parts.2 (omega arith), rw parts.3 (omega arith))

-- two pairs, with none after them
module _ (m k : ℕ) (hm : m < 100) (hk : k < 100) where
  two-parts : ((m * 65536 + k) % 65536 ≡ k) × ((m * 65536 + k) / 65536 % 65536 ≡ m)
  two-parts = (omega arith, omega arith)

  pub two_good : Pairs (m * 65536 + k)
  two_good = (omega (arith, two-parts.0), omega (arith, two-parts.1), omega arith, omega arith)

  pub two-half : {r : ℕ} → Spread (m * 65536 + k) r → Half r k m
  two-half s = rw (two-parts.0, two-parts.1) at s.low

-- ---- the bytes that are written
pub half-text : {w a b : ℕ} → Half w a b → half_bytes w ≡ two a ++ two b
half-text h = rw (h.one, h.two, h.three, h.four)

pub eight-text : (n : ℕ) → n < 100000000 → {r : ℕ} → Spread (pairs_of n) r → word_bytes r ≡ eight n
eight-text n h {r} s =
    let p = parts n h in
    ap₂ ◌++◌ (half-text s.low ∙ ap₂ (λ (a b : ℕ). two a ++ two b) p.0 p.1) (half-text s.high ∙ ap₂ (λ (a b : ℕ). two a ++ two b) p.2 p.3)
