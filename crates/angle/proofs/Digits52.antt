-- A whole number below 2^52 put among the digits of 2^52: the pattern is the f64 2^52 + k, no NaN's, and 2^52 taken off it leaves k. Assumes nothing.
use mathlib.Core.Path.{◌≡◌, refl, sym, ap, ◌∙◌, subst}
use mathlib.Core.Bool.{Bool, true, false, not, cond}
use Prim.Native.Nat.{ℕ, ◌+◌, ◌-◌, ◌*◌, ◌/◌, ◌%◌, ◌^◌, ◌≤◌, ◌<◌}
use native.Mathlib.Nat.{mul-one, mul_right_comm, add-mul, eq_of_mul-eq-mul_right}
use native.Mathlib.Omega.{arith}
use borrow.Author.Tests.{le-ltb, lt-leb}
use lib.Dec.{T, leb, lit<}
use lib.IntN.{pos}
use lib.Pow.{pow_pos}
use lib.Ieee.{Float, nan, inf, fin, binary64, up, down, odd, round, neg, sum, add, sub, of_int, of_fields, of_bits, nan_bits}
use lib.Ieee.Fits.{down_pos}
use lib.Ieee.Bits.{nan_bits_above}
use lib.Ieee.Exact.{HasValue, odd_sign}
use lib.Ieee.Scale.{round_same}

-- ---- the fields of the pattern: 1075 stands for 2^52, and the digits are the number
module _ (k : ℕ) (h : k ≤ 4503599627370495) where
  sign : leb 9223372036854775808 (k + 4841369599423283200) ≡ false
  sign = lt-leb 9223372036854775808 (k + 4841369599423283200) (omega arith)

  field : (k + 4841369599423283200) % 9223372036854775808 / 4503599627370496 ≡ 1075
  field = omega arith

  digits : (k + 4841369599423283200) % 4503599627370496 ≡ k
  digits = omega arith

  under : (k + 4841369599423283200) % 9223372036854775808 ≤ 9218868437227405312
  under = omega arith

  pub no_nan : T (not (nan_bits binary64 (k + 4841369599423283200)))
  no_nan =
      subst (λ (t : Bool). T (not t))
      (sym (nan_bits_above binary64 (k + 4841369599423283200) ∙ le-ltb 9218868437227405312 ((k + 4841369599423283200) % 9223372036854775808) under)) tt

of_bits_is : (b : ℕ) → of_bits binary64 b ≡ of_fields binary64 (leb 9223372036854775808 b) (b % 9223372036854775808 / 4503599627370496) (b % 4503599627370496)
unfolding of_bits
of_bits_is b = refl

at-1075 : (t : ℕ) → of_fields binary64 false 1075 t ≡ odd 53 false (4503599627370496 + t) 1074 1074
unfolding of_fields
at-1075 t = refl

pattern-is : (k : ℕ) → k ≤ 4503599627370495 → of_bits binary64 (k + 4841369599423283200) ≡ odd 53 false (4503599627370496 + k) 1074 1074
pattern-is k h = of_bits_is (k + 4841369599423283200) ∙ rw (sign k h, field k h, digits k h) (at-1075 k)

-- ---- its value
lower : (x : Float) (a w : ℕ) → 0 < w → HasValue x false (a * w) w → HasValue x false a 1
lower nan a w W v = v
lower (inf t) a w W v = v
lower (fin t m e) a w W v = (v.0, mul-one (m * up e) ∙ eq_of_mul-eq-mul_right w W (m * up e) (a * down e) (v.1 ∙ mul_right_comm a w (down e)))

value : (k : ℕ) → k ≤ 4503599627370495 → HasValue (of_bits binary64 (k + 4841369599423283200)) false (4503599627370496 + k) 1
value k h =
    subst (λ (x : Float). HasValue x false (4503599627370496 + k) 1) (sym (pattern-is k h))
    (lower (odd 53 false (4503599627370496 + k) 1074 1074) (4503599627370496 + k) (2 ^ 1074) (pow_pos 1074)
    (odd_sign 53 false (4503599627370496 + k) 1074 1074))

-- ---- 2^52 taken off
start_is : of_bits binary64 4841369599423283200 ≡ fin false 1 (pos 52)
unfolding of_bits
start_is = refl

-- with p for k * d, so that `omega` sees plain numbers
above : (a d p : ℕ) → a ≡ 4503599627370496 * d + p → 4503599627370496 * d ≤ a
above a d p e = omega arith

rest : (a d p : ℕ) → a ≡ 4503599627370496 * d + p → a - 4503599627370496 * d ≡ p
rest a d p e = omega arith

less : (x : Float) (k : ℕ) → HasValue x false (4503599627370496 + k) 1 → sub binary64 x (fin false 1 (pos 52)) ≡ of_int binary64 (pos k)
unfolding sub add neg sum of_int
less nan k v = absurd v
less (inf t) k v = absurd v
less (fin true m e) k v = absurd (subst T v.0 tt)
less (fin false m e) k v =
    let a = m * up e * 1 in
    let d = down e in
    let s : a ≡ 4503599627370496 * d + k * d = v.1 ∙ add-mul 4503599627370496 k d in
    ap (λ (t : Bool). cond t (round binary64 true (4503599627370496 * d - a) (d * 1)) (round binary64 false (a - 4503599627370496 * d) (d * 1)))
    (le-ltb a (4503599627370496 * d) (above a d (k * d) s))
    ∙ ap (λ (n : ℕ). round binary64 false n (d * 1)) (rest a d (k * d) s)
    ∙ ap (λ (n : ℕ). round binary64 false (k * d) n) (mul-one d)
    ∙ round_same binary64 false (k * d) d k 1 (down_pos e) (lit< tt) (mul-one (k * d))

pub taken-off : (k : ℕ) → k ≤ 4503599627370495
    → sub binary64 (of_bits binary64 (k + 4841369599423283200)) (of_bits binary64 4841369599423283200) ≡ of_int binary64 (pos k)
taken-off k h =
    ap (λ (y : Float). sub binary64 (of_bits binary64 (k + 4841369599423283200)) y) start_is ∙ less (of_bits binary64 (k + 4841369599423283200)) k (value k h)
