-- How a number's digits go on by one, and a number as it is carried, up to the cap.
use Rattle.std.proofs.Common.{◌≡◌, ℕ, zero, suc, ◌+◌, ◌-◌, ◌*◌, ◌<◌, ◌≤◌, Bool, true, false, eqb, List, [], ◌∷◌, length, get_or, pos, ◌-ℤ◌, neg_ℤ, sym, refl, ap, ◌∙◌, arith, to_z-of_z, w64, SFits, to_z, of_z, eq-eqb, ne_eqb, le-leb, ◌⊎◌, inl, inr, ◌&&◌, leb, leb-true}
use Rattle.std.specs.Char.{is_ascii_digit}
use mathlib.Core.Option.{Option, none, some}
use Rattle.refusal.specs.Order.{pick}
use lib.IntN.{+ℤ_idl}
use lib.Signed.{mag}
use mir.Facts.{to_z_pos}
use native.Mathlib.Decide.{dec_lt, ℕ_discrete}
use borrow.Author.Tests.{lt-leb}
use Rattle.line.specs.Number.{digits, plain, positive, negative, number_of}
use Rattle.line.specs.Fields.{taken, head}
use Rattle.line.specs.Reading.{from, Tells, Got, itself, empty, capped, capped_z, cap, Long}
use Rattle.line.proofs.Walk as W

-- ---- digits
pub digits-end : (a : ℕ) → digits a [] ≡ some a
unfolding digits
digits-end a = refl

pub digits-on : (a b : ℕ) (f : List ℕ) → 48 ≤ b → b ≤ 57 → digits a (b ∷ f) ≡ digits (a * 10 + (b - 48)) f
unfolding digits
digits-on a b f lo hi = rw (le-leb 48 b lo, le-leb b 57 hi)

pub digits_low : (a b : ℕ) (f : List ℕ) → b < 48 → digits a (b ∷ f) ≡ none
unfolding digits
digits_low a b f h = rw (lt-leb 48 b h)

pub digits-high : (a b : ℕ) (f : List ℕ) → 57 < b → digits a (b ∷ f) ≡ none
unfolding digits
digits-high a b f h = rw (le-leb 48 b (omega arith), lt-leb b 57 h)

-- a byte that is no digit
pub data NoDigit (b : ℕ) : Type 0 where
  low : b < 48 → NoDigit b
  high : 57 < b → NoDigit b

pub is-digit : (b : ℕ) → is_ascii_digit b ≡ true → (48 ≤ b) × (b ≤ 57)
is-digit b e = go (leb 48 b) refl (leb b 57) refl e
  where
    go : (t : Bool) → leb 48 b ≡ t → (u : Bool) → leb b 57 ≡ u → (t && u) ≡ true → (48 ≤ b) × (b ≤ 57)
    go true p true q h = (leb-true 48 b p, leb-true b 57 q)
    go true p false q h = let w : ◌≡◌ {A = ℕ} 0 1 = cc in absurd (omega arith)
    go false p u q h = let w : ◌≡◌ {A = ℕ} 0 1 = cc in absurd (omega arith)

pub not-digit : {b : ℕ} → (b < 48) ⊎ (57 < b) → NoDigit b
not-digit (inl h) = low h
not-digit (inr h) = high h

pub digits-off : (a b : ℕ) (f : List ℕ) → NoDigit b → digits a (b ∷ f) ≡ none
digits-off a b f (low h) = digits_low a b f h
digits-off a b f (high h) = digits-high a b f h

module _ {s : List ℕ} {at v next : ℕ} (a : ℕ) where
  -- a digit more in front
  pub digit-on : (b : ℕ) → Got s capped (digits b) (at + 1) v next → b ≡ a * 10 + (get_or s at 0 - 48) → at < length s → 48 ≤ get_or s at 0 → get_or s at 0 ≤ 57 → Got s capped (digits a) at v next
  digit-on b g e h lo hi = W.onto g h (omega arith) (λ f. digits-on a (get_or s at 0) f lo hi ∙ ap (λ (n : ℕ). digits n f) (sym e))

  -- the last digit was the one before
  pub digits-close : Got s itself empty at tt next → v ≡ capped a → (at < length s → NoDigit (get_or s at 0)) → Got s capped (digits a) at v next
  digits-close g e off = W.head-close s at (digits a) a g (digits-end a) e (λ l t f. digits-off a (get_or s at 0) f (off l))

-- digits after a number that is past the cap
pub long-on : (s : List ℕ) (at : ℕ) → at < length s → 48 ≤ get_or s at 0 → get_or s at 0 ≤ 57 → (next : ℕ) → Long s (at + 1) next → Long s at next
long-on s at h lo hi next long a k =
    let b = a * 10 + (get_or s at 0 - 48) in
    digit-on a b (long b (omega arith)) refl h lo hi

pub long-close : {s : List ℕ} {at next : ℕ} → Got s itself empty at tt next → (at < length s → NoDigit (get_or s at 0)) → Long s at next
long-close g off a k = digits-close a g (omega arith) off

-- ---- no spare zero
pub plain-none : plain [] ≡ none
unfolding plain
plain-none = refl

pub plain-zero : (b : ℕ) → b ≡ 48 → plain (b ∷ []) ≡ some 0
unfolding plain digits
plain-zero b e = rw e refl

pub plain-spare : (b c : ℕ) (f : List ℕ) → b ≡ 48 → plain (b ∷ c ∷ f) ≡ none
unfolding plain
plain-spare b c f e = rw (eq-eqb b 48 e)

pub plain-off : (b : ℕ) (f : List ℕ) → NoDigit b → plain (b ∷ f) ≡ none
unfolding plain
plain-off b [] n = digits-off 0 b [] n
plain-off b (c ∷ f) n = rw (digits-off 0 b (c ∷ f) n) (either (eqb b 48))
  where
    either : (t : Bool) → pick {A = Option ℕ} t none none ≡ none
    either true = refl
    either false = refl

pub plain-on : (b : ℕ) (f : List ℕ) → 48 < b → b ≤ 57 → plain (b ∷ f) ≡ digits (b - 48) f
unfolding plain
plain-on b [] lo hi = digits-on 0 b [] (omega arith) hi ∙ let e : 0 * 10 + (b - 48) ≡ b - 48 = omega arith in ap (λ (n : ℕ). digits n []) e
plain-on b (c ∷ f) lo hi =
    let z : b ≡ 48 → ⊥ = λ q. omega arith in
    rw (ne_eqb b 48 z) (digits-on 0 b (c ∷ f) (omega arith) hi ∙ let e : 0 * 10 + (b - 48) ≡ b - 48 = omega arith in ap (λ (n : ℕ). digits n (c ∷ f)) e)

module _ {s : List ℕ} {at next : ℕ} (h : at < length s) where
  -- a 0, which stands alone
  pub zero-alone : Got s itself empty (at + 1) tt next → get_or s at 0 ≡ 48 → Got s capped plain at 0 next
  zero-alone g e =
      W.onto (W.head-close s (at + 1) (λ f. plain (get_or s at 0 ∷ f)) 0 g (plain-zero (get_or s at 0) e) (omega arith) (λ l t f. plain-spare (get_or s at 0) (get_or s (at + 1) 0) f e))
      h (omega arith) (λ f. refl)

  pub first-digit : {v : ℕ} (a : ℕ) → Got s capped (digits a) (at + 1) v next → a ≡ get_or s at 0 - 48 → 48 < get_or s at 0 → get_or s at 0 ≤ 57 → Got s capped plain at v next
  first-digit a g e lo hi = W.onto g h (omega arith) (λ f. plain-on (get_or s at 0) f lo hi ∙ ap (λ (n : ℕ). digits n f) (sym e))

pub no_digit : (s : List ℕ) (at : ℕ) → (at < length s → NoDigit (get_or s at 0)) → head plain (from s at) ≡ none
no_digit s at off = go (dec_lt at (length s)) (ℕ_discrete (get_or s at 0) 9)
  where
    go : Dec (at < length s) → Dec (get_or s at 0 ≡ 9) → head plain (from s at) ≡ none
    go (yes l) (yes e) = W.head-nothing s at plain (λ l. e) plain-none
    go (yes l) (no e) = W.head-off s at plain l e (λ f. plain-off (get_or s at 0) f (off l))
    go (no l) e = W.head-nothing s at plain (λ k. absurd (l k)) plain-none

-- ---- signs
-- a u64 up to the cap, cast to an i64, is that number
pub cast_is : (n : ℕ) → n ≤ cap → to_z w64 n ≡ pos n
cast_is n h = to_z_pos w64 (omega arith)

mag-neg : (n : ℕ) → mag (neg_ℤ (pos n)) ≤ n
mag-neg zero = omega arith
mag-neg (suc n) = omega arith

pub neg-fits : (n : ℕ) → n ≤ cap → SFits w64 (pos 0 -ℤ to_z w64 n)
neg-fits n h = rw (cast_is n h, +ℤ_idl) (record { sfits = omega (arith, mag-neg n) })

pub neg_is : (n : ℕ) → n ≤ cap → to_z w64 (of_z w64 (pos 0 -ℤ to_z w64 n)) ≡ neg_ℤ (pos n)
neg_is n h = to_z-of_z (neg-fits n h) ∙ rw (cast_is n h, +ℤ_idl)

pub number-none : number_of [] ≡ none
unfolding number_of
number-none = refl

number-minus : (b : ℕ) (f : List ℕ) → b ≡ 45 → number_of (b ∷ f) ≡ negative (plain f)
unfolding number_of
number-minus b f e = rw (eq-eqb b 45 e)

number-plus : (b : ℕ) (f : List ℕ) → (b ≡ 45 → ⊥) → number_of (b ∷ f) ≡ positive (plain (b ∷ f))
unfolding number_of
number-plus b f e = rw (ne_eqb b 45 e)

module _ {s : List ℕ} {at n next : ℕ} (h : at < length s) where
  -- with a minus in front: 0 has none
  pub below : {last : ℕ} → Got s capped plain (at + 1) n next → get_or s at 0 ≡ 45 → (n ≡ 0 → length s + 1 < last) → ((n ≡ 0 → ⊥) → last ≡ next) → Got s capped_z number_of at (neg_ℤ (pos n)) last
  below {last} g e nil same =
      W.onto {rest = λ f. negative (plain f)} (record { tells = go (from s (at + 1)) g.tells }) h (omega arith) (λ f. number-minus (get_or s at 0) f e)
    where
      kept : (n ≡ 0 → ⊥) → next ≤ length s + 1 → last ≤ length s + 1
      kept z k = let q = same z in omega arith

      bad : Dec (n ≡ 0) → length s + 1 < next → length s + 1 < last
      bad (yes z) k = nil z
      bad (no z) k = let q = same z in omega arith

      by : (o : Option ℕ) (fs : List (List ℕ)) → Tells s capped (taken o fs) n next → Tells s capped_z (taken (negative o) fs) (neg_ℤ (pos n)) last
      by none fs t = bad (ℕ_discrete n 0) t
      by (some zero) fs t = nil t.0
      by (some (suc m)) fs t =
          let z : n ≡ 0 → ⊥ = λ q. omega arith in
          (ap (λ (k : ℕ). neg_ℤ (pos k)) t.0, kept z t.1, ap (from s) (same z) ∙ t.2)

      go : (fs : List (List ℕ)) → Tells s capped (head plain fs) n next → Tells s capped_z (head (λ f. negative (plain f)) fs) (neg_ℤ (pos n)) last
      go [] t = bad (ℕ_discrete n 0) t
      go (f ∷ fs) t = by (plain f) fs t

  pub above : Got s capped plain at n next → (get_or s at 0 ≡ 45 → ⊥) → Got s capped_z number_of at (pos n) next
  above g e =
      record {
        tells =
            rw (W.head-same s at number_of (λ f. positive (plain f)) h (number-none ∙ sym (ap positive plain-none)) (λ f. number-plus (get_or s at 0) f e))
            (go (from s at) g.tells);
      }
    where
      by : (o : Option ℕ) (fs : List (List ℕ)) → Tells s capped (taken o fs) n next → Tells s capped_z (taken (positive o) fs) (pos n) next
      by none fs t = t
      by (some m) fs t = (ap pos t.0, t.1, t.2)

      go : (fs : List (List ℕ)) → Tells s capped (head plain fs) n next → Tells s capped_z (head (λ f. positive (plain f)) fs) (pos n) next
      go [] t = t
      go (f ∷ fs) t = by (plain f) fs t
