-- A written number is in plain form, and is read as the number.
use Rattle.std.proofs.Common.{◌≡◌, ℕ, zero, suc, ◌+◌, ◌-◌, ◌*◌, ◌/◌, ◌%◌, ◌<◌, ◌≤◌, Bool, true, false, List, [], ◌∷◌, ◌++◌, length, get_or, ℤ, pos, negsuc, refl, ap, ◌∙◌, arith, length-append, ne_eqb, le-leb}
use mathlib.Core.Option.{none, some}
use lib.ListN.{get_or-append}
use native.Mathlib.Decide.{dec_lt}
use Rattle.refusal.specs.Order.{pick}
use Rattle.line.specs.Number.{is_digit, digits, plain, positive, negative, number_of}
use Rattle.line.specs.Text.{decimal, integer}
use Rattle.line.proofs.Texts as T

digits-snoc : (s : List ℕ) (a v d : ℕ) → digits a s ≡ some v → d < 10 → digits a (s ++ ((48 + d) ∷ [])) ≡ some (v * 10 + d)
unfolding digits
digits-snoc [] a v d e h =
    let q : a ≡ v = cc in
    let w : a * 10 + (48 + d - 48) ≡ v * 10 + d = omega arith in
    rw (le-leb 48 (48 + d) (omega arith), le-leb (48 + d) 57 (omega arith), w)
digits-snoc (b ∷ s) a v d e h = go (is_digit b) (λ q. digits-snoc s (a * 10 + (b - 48)) v d q h) e
  where
    go : (t : Bool)
        → (digits (a * 10 + (b - 48)) s ≡ some v → digits (a * 10 + (b - 48)) (s ++ ((48 + d) ∷ [])) ≡ some (v * 10 + d))
        → pick t (digits (a * 10 + (b - 48)) s) none ≡ some v → pick t (digits (a * 10 + (b - 48)) (s ++ ((48 + d) ∷ []))) none ≡ some (v * 10 + d)
    go true on q = on q
    go false on q = cc

-- a number's digits: what they say, that there is one, and that the first is no 0 but for 0 itself
pub record Written (n : ℕ) : Type 0 where
  pub says : digits 0 (decimal n) ≡ some n
  pub some-digit : 0 < length (decimal n)
  pub digit : 48 ≤ get_or (decimal n) 0 0
  pub no_zero : 0 < n → 48 < get_or (decimal n) 0 0

written_one : (n : ℕ) → n < 10 → Written n
unfolding digits
written_one n l =
    let e = T.decimal-one n l in
    let w : 0 * 10 + (48 + n - 48) ≡ n = omega arith in
    record {
      says = rw e (rw (le-leb 48 (48 + n) (omega arith), le-leb (48 + n) 57 (omega arith), w));
      some-digit = rw e (omega arith);
      digit = rw e (omega arith);
      no_zero = λ p. rw e (omega arith);
    }

written-more : (n : ℕ) → 10 ≤ n → Written (n / 10) → Written n
written-more n h r =
    let e = T.decimal-more n h in
    let first = get_or-append (decimal (n / 10)) ((48 + n % 10) ∷ []) 0 0 r.some-digit in
    let w : n / 10 * 10 + n % 10 ≡ n = omega arith in
    let z = r.no_zero (omega arith) in
    record {
      says = rw e (digits-snoc (decimal (n / 10)) 0 (n / 10) (n % 10) r.says (omega arith) ∙ ap some w);
      some-digit = rw e (omega (arith, length-append (decimal (n / 10)) ((48 + n % 10) ∷ [])));
      digit = rw e (omega arith);
      no_zero = λ p. rw e (omega arith);
    }

written-by : (f n : ℕ) → n < f → Written n
written-by zero n h = absurd (omega arith)
written-by (suc f) n h = go (dec_lt n 10) (λ l. written-by f (n / 10) l)
  where
    go : Dec (n < 10) → (n / 10 < f → Written (n / 10)) → Written n
    go (yes l) on = written_one n l
    go (no l) on = written-more n (omega arith) (on (omega arith))

pub written : (n : ℕ) → Written n
written n = written-by (suc n) n (omega arith)

plain-digits : (f : List ℕ) → 0 < length f → (get_or f 0 0 ≡ 48 → length f ≡ 1) → plain f ≡ digits 0 f
unfolding plain
plain-digits [] h z = absurd (omega arith)
plain-digits (b ∷ []) h z = refl
plain-digits (b ∷ c ∷ f) h z = let n : b ≡ 48 → ⊥ = λ q. (let y = z q in omega arith) in rw (ne_eqb b 48 n)

pub plain-decimal : (n : ℕ) → plain (decimal n) ≡ some n
plain-decimal n = plain-digits (decimal n) (written n).some-digit (λ e. go (dec_lt n 10) e) ∙ (written n).says
  where
    go : Dec (n < 10) → get_or (decimal n) 0 0 ≡ 48 → length (decimal n) ≡ 1
    go (yes l) e = ap length (T.decimal-one n l)
    go (no l) e = let z = (written n).no_zero (omega arith) in absurd (omega arith)

number-unsigned : (f : List ℕ) → 0 < length f → (get_or f 0 0 ≡ 45 → ⊥) → number_of f ≡ positive (plain f)
unfolding number_of
number-unsigned [] h z = absurd (omega arith)
number-unsigned (b ∷ f) h z = rw (ne_eqb b 45 z)

-- a written number is in plain form, and is read as the number
pub number-back : (z : ℤ) → number_of (integer z) ≡ some z
unfolding integer number_of
number-back (pos n) =
    let d = (written n).digit in
    number-unsigned (decimal n) (written n).some-digit (λ e. omega arith) ∙ ap positive (plain-decimal n)
number-back (negsuc n) = ap negative (plain-decimal (suc n))
