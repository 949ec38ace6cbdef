-- Eight bytes in one number: which of its bits say that they are digits. Assumes nothing.
use Rattle.std.proofs.Common.{◌≡◌, ℕ, zero, suc, ◌+◌, ◌-◌, ◌*◌, ◌/◌, ◌%◌, ◌^◌, ◌<◌, ◌≤◌, ltb, List, get_or, sym, refl, ap, ◌∙◌, add-zero, pow-suc, arith, le-ltb, lt-ltb}
use lib.Bits.{bit_and, bit_or, bit_xor, and_block, and_mask, and_high, and_le_l, and_le_r, or_add_and, xor_block, xor_lt, xor_zero_r, xor_add_and}
use native.Mathlib.Decide.{dec_lt}
use Rattle.refusal.specs.Order.{pick}
use Rattle.line.specs.Reading.{together, byte_from, Word, Digits, Clear, higher_halves, sixes, seven_halves_and_byte, seven_sixes, seven_after_zero}

pub word-is : (s : List ℕ) (p : ℕ)
    → get_or s (p + 7) 0 * 72057594037927936
    + get_or s (p + 6) 0 * 281474976710656
    + get_or s (p + 5) 0 * 1099511627776
    + get_or s (p + 4) 0 * 4294967296
    + get_or s (p + 3) 0 * 16777216
    + get_or s (p + 2) 0 * 65536
    + get_or s (p + 1) 0 * 256
    + get_or s p 0
    ≡ together 8 (byte_from s p)
unfolding together
word-is s p = let e = add-zero p in rw e (omega arith)

-- numbers below 256, as far as k of them
abbrev pub Bytes : ℕ → (ℕ → ℕ) → Type 0
Bytes k f = (i : ℕ) → i < k → f i < 256

further : {k : ℕ} {f : ℕ → ℕ} → Bytes (suc k) f → Bytes k (λ i. f (suc i))
further b i h = b (suc i) (omega arith)

-- ---- byte by byte
and-each : (k : ℕ) (f m : ℕ → ℕ) → Bytes k f → Bytes k m → bit_and (together k f) (together k m) ≡ together k (λ i. bit_and (f i) (m i))
unfolding together
and-each zero f m b c = refl
and-each (suc k) f m b c =
    and_block 8 (together k (λ i. f (suc i))) (together k (λ i. m (suc i))) (f 0) (m 0) (b 0 (omega arith)) (c 0 (omega arith))
    ∙ ap (λ (n : ℕ). n * 256 + bit_and (f 0) (m 0)) (and-each k (λ i. f (suc i)) (λ i. m (suc i)) (further b) (further c))

xor-each : (k : ℕ) (f m : ℕ → ℕ) → Bytes k f → Bytes k m → bit_xor (together k f) (together k m) ≡ together k (λ i. bit_xor (f i) (m i))
unfolding together
xor-each zero f m b c = refl
xor-each (suc k) f m b c =
    xor_block 8 (together k (λ i. f (suc i))) (together k (λ i. m (suc i))) (f 0) (m 0) (b 0 (omega arith)) (c 0 (omega arith))
    ∙ ap (λ (n : ℕ). n * 256 + bit_xor (f 0) (m 0)) (xor-each k (λ i. f (suc i)) (λ i. m (suc i)) (further b) (further c))

add-each : (k : ℕ) (f x : ℕ → ℕ) → together k f + together k x ≡ together k (λ i. f i + x i)
unfolding together
add-each zero f x = refl
add-each (suc k) f x = let e = add-each k (λ i. f (suc i)) (λ i. x (suc i)) in omega arith

none_each : (k : ℕ) (f : ℕ → ℕ) → together k f ≡ 0 → (i : ℕ) → i < k → f i ≡ 0
unfolding together
none_each zero f e i h = absurd (omega arith)
none_each (suc k) f e zero h = omega arith
none_each (suc k) f e (suc i) h = none_each k (λ i. f (suc i)) (omega arith) i (omega arith)

pub below : (k : ℕ) (f : ℕ → ℕ) → Bytes k f → together k f < 256 ^ k
unfolding together
below zero f b = omega arith
below (suc k) f b =
    let e = below k (λ i. f (suc i)) (further b) in
    let l = b 0 (omega arith) in
    let p = pow-suc 256 k in
    omega arith

pub same-each : (k : ℕ) (f g : ℕ → ℕ) → ((i : ℕ) → i < k → f i ≡ g i) → together k f ≡ together k g
unfolding together
same-each zero f g e = refl
same-each (suc k) f g e = let q = same-each k (λ i. f (suc i)) (λ i. g (suc i)) (λ i h. e (suc i) (omega arith)) in let z = e 0 (omega arith) in omega arith

pub none-set : (a b : ℕ) → bit_or a b ≡ 0 → (a ≡ 0) × (b ≡ 0)
none-set a b e = (omega (arith, or_add_and a b, and_le_l a b, and_le_r a b), omega (arith, or_add_and a b, and_le_l a b, and_le_r a b))

-- ---- eight bytes that are clear
abbrev ClearEach : (ℕ → ℕ) → (ℕ → ℕ) → Type 0
ClearEach g m = (i : ℕ) → i < 8 → bit_and (g i) (m i) ≡ 0

record Cleared (g m x : ℕ → ℕ) : Type 0 where
  plain : ClearEach g m
  raised : Bytes 8 (λ i. g i + x i) → ClearEach (λ i. g i + x i) m

cleared : (g m x : ℕ → ℕ) → Bytes 8 g → Bytes 8 m → Clear (together 8 m) (together 8 x) (together 8 g) → Cleared g m x
cleared g m x bg bm c = record { plain = each g bg refl c.plain; raised = raised }
  where
    each : (f : ℕ → ℕ) {n : ℕ} → Bytes 8 f → together 8 f ≡ n → bit_and n (together 8 m) ≡ 0 → ClearEach f m
    each f b e z = none_each 8 (λ i. bit_and (f i) (m i)) (sym (and-each 8 f m b bm) ∙ ap (λ (n : ℕ). bit_and n (together 8 m)) e ∙ z)

    raised : Bytes 8 (λ i. g i + x i) → ClearEach (λ i. g i + x i) m
    raised b =
        let e = add-each 8 g x in
        let l = below 8 (λ i. g i + x i) b in
        let q : together 8 (λ i. g i + x i) ≡ (together 8 g + together 8 x) % 2 ^ 64 = omega arith in
        each (λ i. g i + x i) b q c.raised

-- the bytes from p on without the bits of others
abbrev pub apart : List ℕ → ℕ → (ℕ → ℕ) → ℕ → ℕ
apart s p t i = bit_xor (byte_from s p i) (t i)

module _ {s : List ℕ} {p w : ℕ} (d : Word s p w) (t : ℕ → ℕ) (b : Bytes 8 t) where
  pub apart-small : Bytes 8 (apart s p t)
  apart-small i h = xor_lt 8 (byte_from s p i) (t i) (d.small (p + i)) (b i h)

  pub apart-is : bit_xor w (together 8 t) ≡ together 8 (apart s p t)
  apart-is = ap (λ (n : ℕ). bit_xor n (together 8 t)) d.is ∙ xor-each 8 (byte_from s p) t (λ i h. d.small (p + i)) b

-- ---- one byte
under : (b : ℕ) → b < 256 → bit_and b 240 ≡ 0 → b < 16
under b h e =
    let q : b / 16 % 16 * 16 ≡ 0 = sym (and_high b 4 4) ∙ e in
    let l : b / 16 < 16 = omega arith in
    let m : b / 16 % 16 ≡ b / 16 = omega arith in
    omega arith

-- the digit 0's bits are 3 in the higher half
third : (q : ℕ) → bit_xor q 3 ≡ 0 → q ≡ 3
third q e = omega (arith, xor_add_and q 3, and_le_l q 3, and_le_r q 3)

split : (b : ℕ) → b ≡ b / 16 * 16 + b % 16
split b = omega arith

apart-byte : (b : ℕ) → bit_xor b 48 ≡ bit_xor (b / 16) 3 * 16 + b % 16
apart-byte b =
    ap (λ (n : ℕ). bit_xor n 48) (split b)
    ∙ xor_block 4 (b / 16) 3 (b % 16) 0 (omega arith) (omega arith)
    ∙ ap (λ (n : ℕ). bit_xor (b / 16) 3 * 16 + n) (xor_zero_r (b % 16))

-- a byte that is a digit, and its number
pub record Digit (b : ℕ) : Type 0 where
  pub low : 48 ≤ b
  pub high : b ≤ 57
  pub is : bit_xor b 48 ≡ b - 48

pub digit-byte : (b : ℕ) → bit_xor b 48 ≤ 9 → Digit b
digit-byte b h =
    let e = apart-byte b in
    let z : bit_xor (b / 16) 3 ≡ 0 = omega arith in
    let q = third (b / 16) z in
    record { low = omega arith; high = omega arith; is = omega arith }

-- below 16, and still with 6 more
nine : (n : ℕ) → n < 16 → bit_and (n + 6) 240 ≡ 0 → n ≤ 9
nine n l e = omega (arith, under (n + 6) (omega arith) e)

pub nine-each : (g : ℕ → ℕ) → Bytes 8 g → Clear higher_halves sixes (together 8 g) → (i : ℕ) → i < 8 → g i ≤ 9
unfolding together
nine-each g b c i h = nine (g i) (u i h) (k.raised (λ j l. omega (arith, u j l)) i h)
  where
    k : Cleared g (λ i. 240) (λ i. 6)
    k = cleared g (λ i. 240) (λ i. 6) b (λ i h. omega arith) c

    u : (i : ℕ) → i < 8 → g i < 16
    u i h = under (g i) (b i h) (k.plain i h)

tab-byte : (b : ℕ) → bit_xor b 9 ≡ 0 → b ≡ 9
tab-byte b e = omega (arith, xor_add_and b 9, and_le_l b 9, and_le_r b 9)

-- ---- digits behind zeros
-- a 0 in front, and several
unfoldable pub after : (ℕ → ℕ) → ℕ → ℕ
after g zero = 0
after g (suc i) = g i

unfoldable pub behind : ℕ → (ℕ → ℕ) → ℕ → ℕ
behind zero g = g
behind (suc j) g = after (behind j g)

abbrev pub digit_from : List ℕ → ℕ → ℕ → ℕ
digit_from s p i = byte_from s p i - 48

-- the k digits from p on, each in a byte of e, behind as many zeros as make them eight
pub record Spelt (k : ℕ) (s : List ℕ) (p e : ℕ) : Type 0 where
  pub most : k ≤ 8
  pub digits : Digits k s p
  pub is : e ≡ together 8 (behind (8 - k) (digit_from s p))

top-off : (x y : ℕ) → y < 72057594037927936 → (x * 72057594037927936 + y) % 72057594037927936 ≡ y
top-off x y h = omega arith

pub last_off : (g : ℕ → ℕ) → ((i : ℕ) → i < 7 → g i < 256) → seven_after_zero (together 8 g) ≡ together 8 (after g)
unfolding together after
last_off g b =
    let e : together 8 g ≡ g 7 * 72057594037927936 + together 7 g = omega arith in
    let q = top-off (g 7) (together 7 g) (below 7 g b) in
    ap (λ (n : ℕ). n % 72057594037927936 * 256) e ∙ ap (λ (n : ℕ). n * 256) q ∙ sym (add-zero (together 7 g * 256))

-- the first seven of eight
pub first-seven : {s : List ℕ} {p d : ℕ} → Spelt 8 s p d → Spelt 7 s p (seven_after_zero d)
unfolding behind
first-seven {s} {p} {d} y =
    record {
      most = omega arith;
      digits = record { low = λ i h. y.digits.low i (omega arith); high = λ i h. y.digits.high i (omega arith) };
      is = ap seven_after_zero y.is ∙ last_off (digit_from s p) (λ i h. omega (arith, y.digits.high i (omega arith)));
    }

-- ---- seven digits, and a tab
-- a number seven times, and another
abbrev then-last : ℕ → ℕ → ℕ → ℕ
then-last a b i = pick (ltb i 7) a b

early : (a b i : ℕ) → i < 7 → then-last a b i ≡ a
early a b i h = rw (lt-ltb i 7 h)

then-small : (a b : ℕ) → a < 256 → b < 256 → (i : ℕ) → i < 8 → then-last a b i < 256
then-small a b ha hb i h = go (dec_lt i 7)
  where
    go : Dec (i < 7) → then-last a b i < 256
    go (yes l) = rw (lt-ltb i 7 l) ha
    go (no l) = rw (le-ltb i 7 (omega arith)) hb

module _ {s : List ℕ} {p w : ℕ} (d : Word s p w) (c : Clear seven_halves_and_byte seven_sixes (bit_xor w 662082128748490800)) where
  abbrev bytes : ℕ → ℕ
  bytes = byte_from s p

  abbrev parts : ℕ → ℕ
  parts = apart s p (then-last 48 9)

  small : Bytes 8 parts
  small = apart-small d (then-last 48 9) (then-small 48 9 (omega arith) (omega arith))

  parts_is : bit_xor w 662082128748490800 ≡ together 8 parts
  unfolding together
  parts_is = apart-is d (then-last 48 9) (then-small 48 9 (omega arith) (omega arith))

  clear : Cleared parts (then-last 240 255) (then-last 6 0)
  unfolding together
  clear = cleared parts (then-last 240 255) (then-last 6 0) small (then-small 240 255 (omega arith) (omega arith)) (rw parts_is at c)

  under-each : (i : ℕ) → i < 7 → bit_xor (bytes i) 48 < 16
  under-each i h =
      let b = rw (early 48 9 i h) at (small i (omega arith)) in
      under (bit_xor (bytes i) 48) b (rw (early 48 9 i h, early 240 255 i h) at (clear.plain i (omega arith)))

  last_none : bit_xor (bytes 7) 9 ≡ 0
  last_none =
      let l : bit_xor (bytes 7) 9 < 256 = small 7 (omega arith) in
      let e : bit_xor (bytes 7) 9 % 256 ≡ 0 = sym (and_mask (bit_xor (bytes 7) 9) 8) ∙ clear.plain 7 (omega arith) in
      omega arith

  pub tab-last : get_or s (p + 7) 0 ≡ 9
  tab-last = tab-byte (bytes 7) last_none

  room : (i : ℕ) → i < 8 → parts i + then-last 6 0 i < 256
  room i h = go (dec_lt i 7)
    where
      go : Dec (i < 7) → parts i + then-last 6 0 i < 256
      go (yes l) = rw (early 48 9 i l, early 6 0 i l) (omega (arith, under-each i l))
      go (no l) =
          let e : i ≡ 7 = omega arith in
          rw e (omega (arith, last_none))

  each : (i : ℕ) → i < 7 → Digit (bytes i)
  each i h =
      digit-byte (bytes i)
      (nine (bit_xor (bytes i) 48) (under-each i h) (rw (early 48 9 i h, early 240 255 i h, early 6 0 i h) at (clear.raised room i (omega arith))))

  seven_is : seven_after_zero (bit_xor w 662082128748490800) ≡ together 8 (after (digit_from s p))
  unfolding together after
  seven_is =
      ap seven_after_zero parts_is
      ∙ last_off parts (λ i h. small i (omega arith))
      ∙ ap (λ (n : ℕ). n * 256 + 0)
      (same-each 7 parts (digit_from s p) (λ i h. ap (bit_xor (bytes i)) (early 48 9 i h) ∙ (each i h).is))

  pub seven-and-tab : Spelt 7 s p (seven_after_zero (bit_xor w 662082128748490800))
  unfolding behind
  seven-and-tab = record { most = omega arith; digits = record { low = λ i h. (each i h).low; high = λ i h. (each i h).high }; is = seven_is }
