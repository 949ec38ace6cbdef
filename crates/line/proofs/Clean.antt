-- What is read as a number or as a name has no tab in it, so it is one field, and no line feed, so it is of one line. Assumes nothing.
use Rattle.std.proofs.Common.{◌≡◌, ℕ, zero, suc, ◌+◌, ◌-◌, ◌*◌, ◌<◌, Bool, true, false, eqb, leb, List, [], ◌∷◌, ◌++◌, length, get_or, ℤ, sym, refl, ap, ◌∙◌, arith, eq-eqb, ne_eqb}
use mathlib.Core.Option.{Option, none, some}
use native.Mathlib.Decide.{ℕ_discrete}
use Rattle.refusal.specs.Order.{pick}
use Rattle.chain.specs.declared.Id.{Id}
use Rattle.line.specs.Number.{is_digit, digits, plain, positive, negative, number_of}
use Rattle.line.specs.Name.{is_name_byte, all_name_bytes, packed, name_of}
use Rattle.line.specs.Fields.{fields, front}
use Rattle.line.proofs.Capped.{never}
use Rattle.line.proofs.WrittenNames.{all_tail}

-- a byte x is not among some
unfoldable pub Clean : ℕ → List ℕ → Type 0
Clean x [] = Unit {0}
Clean x (b ∷ f) = (b ≡ x → ⊥) × Clean x f

unfoldable pub AllClean : ℕ → List (List ℕ) → Type 0
AllClean x [] = Unit {0}
AllClean x (f ∷ fs) = Clean x f × AllClean x fs

-- neither a digit nor a byte of a name, as a tab and a line feed
pub record Foreign (x : ℕ) : Type 0 where
  pub digit : is_digit x ≡ false
  pub letter : is_name_byte x ≡ false
  pub sign : x ≡ 45 → ⊥

pub a-tab : Foreign 9
a-tab = record { digit = refl; letter = refl; sign = λ e. omega arith }

pub a-feed : Foreign 10
a-feed = record { digit = refl; letter = refl; sign = λ e. omega arith }

pub fields-clean : (f : List ℕ) → Clean 9 f → fields f ≡ f ∷ []
unfolding fields Clean
fields-clean [] c = refl
fields-clean (b ∷ f) c = rw (ne_eqb b 9 c.0, fields-clean f c.1)

pub fields-tab : (f r : List ℕ) → Clean 9 f → fields (f ++ (9 ∷ r)) ≡ f ∷ fields r
unfolding fields Clean
fields-tab [] r c = refl
fields-tab (b ∷ f) r c = rw (ne_eqb b 9 c.0, fields-tab f r c.1)

-- a line of fields without x, which is no tab, has none
pub clean_line : (x : ℕ) → (x ≡ 9 → ⊥) → (s : List ℕ) → AllClean x (fields s) → Clean x s
unfolding Clean AllClean fields
clean_line x h [] c = tt
clean_line x h (b ∷ s) c = go (ℕ_discrete b 9) (fields s) (clean_line x h s) c
  where
    go : Dec (b ≡ 9) → (fs : List (List ℕ)) → (AllClean x fs → Clean x s) → AllClean x (pick (eqb b 9) ([] ∷ fs) (front b fs)) → (b ≡ x → ⊥) × Clean x s
    go (yes q) fs on c = let d : AllClean x ([] ∷ fs) = rw (eq-eqb b 9 q) at c in (λ e. h (sym e ∙ q), on d.1)
    go (no q) [] on c = let d : AllClean x ((b ∷ []) ∷ []) = rw (ne_eqb b 9 q) at c in (d.0.0, on tt)
    go (no q) (f ∷ fs) on c = let d : AllClean x ((b ∷ f) ∷ fs) = rw (ne_eqb b 9 q) at c in (d.0.0, on (d.0.1, d.1))

-- wherever one looks
pub clean_at : (x : ℕ) (s : List ℕ) → Clean x s → (i : ℕ) → i < length s → get_or s i 0 ≡ x → ⊥
unfolding Clean
clean_at x [] c i h e = omega arith
clean_at x (b ∷ s) c zero h e = c.0 e
clean_at x (b ∷ s) c (suc i) h e = clean_at x s c.1 i (omega arith) e

module _ {x : ℕ} (w : Foreign x) where
  clean-digits : (a v : ℕ) (f : List ℕ) → digits a f ≡ some v → Clean x f
  unfolding digits Clean
  clean-digits a v [] e = tt
  clean-digits a v (b ∷ f) e = go (ℕ_discrete b x) (λ q. clean-digits (a * 10 + (b - 48)) v f q) (is_digit b) refl e
    where
      go : Dec (b ≡ x) → (digits (a * 10 + (b - 48)) f ≡ some v → Clean x f) → (t : Bool) → is_digit b ≡ t → pick t (digits (a * 10 + (b - 48)) f) none ≡ some v → (b ≡ x → ⊥) × Clean x f
      go (yes i) on true d q = absurd (never (sym w.digit ∙ ap is_digit (sym i) ∙ d))
      go (no i) on true d q = (i, on q)
      go i on false d q = let w : ◌≡◌ {A = ℕ} 0 1 = cc in absurd (omega arith)

  clean-name : (s : List ℕ) → all_name_bytes s ≡ true → Clean x s
  unfolding Clean
  clean-name [] h = tt
  clean-name (b ∷ s) h =
      let t = all_tail b s h in
      (λ e. never (sym w.letter ∙ ap is_name_byte (sym e) ∙ t.0), clean-name s t.1)

  clean-plain : (n : ℕ) (f : List ℕ) → plain f ≡ some n → Clean x f
  unfolding plain
  clean-plain n [] e = let w : ◌≡◌ {A = ℕ} 0 1 = cc in absurd (omega arith)
  clean-plain n (b ∷ []) e = clean-digits 0 n (b ∷ []) e
  clean-plain n (b ∷ c ∷ f) e = go (eqb b 48) e
    where
      go : (t : Bool) → pick t none (digits 0 (b ∷ c ∷ f)) ≡ some n → Clean x (b ∷ c ∷ f)
      go true q = let w : ◌≡◌ {A = ℕ} 0 1 = cc in absurd (omega arith)
      go false q = clean-digits 0 n (b ∷ c ∷ f) q

below-some : (o : Option ℕ) (z : ℤ) → negative o ≡ some z → (n : ℕ) × (o ≡ some n)
below-some none z e = let w : ◌≡◌ {A = ℕ} 0 1 = cc in absurd (omega arith)
below-some (some n) z e = (n, refl)

above-some : (o : Option ℕ) (z : ℤ) → positive o ≡ some z → (n : ℕ) × (o ≡ some n)
above-some none z e = let w : ◌≡◌ {A = ℕ} 0 1 = cc in absurd (omega arith)
above-some (some n) z e = (n, refl)

module _ {x : ℕ} (w : Foreign x) where
  pub clean-number : (f : List ℕ) (z : ℤ) → number_of f ≡ some z → Clean x f
  unfolding number_of Clean
  clean-number [] z e = tt
  clean-number (b ∷ f) z e = go (ℕ_discrete b 45)
    where
      go : Dec (b ≡ 45) → Clean x (b ∷ f)
      go (yes q) =
          let n = below-some (plain f) z (rw (eq-eqb b 45 q) at e) in
          (λ t. w.sign (sym t ∙ q), clean-plain w n.0 f n.1)
      go (no q) = let n = above-some (plain (b ∷ f)) z (rw (ne_eqb b 45 q) at e) in clean-plain w n.0 (b ∷ f) n.1

  pub clean-named : (s : List ℕ) (id : Id) → name_of s ≡ some id → Clean x s
  unfolding name_of
  clean-named s id e = clean-name w s (go (leb 1 (length s)) (leb (length s) 16) (all_name_bytes s) e)
    where
      go : (t u v : Bool) → pick t (pick u (pick v (some (packed s)) none) none) none ≡ some id → v ≡ true
      go true true true q = refl
      go true true false q = cc
      go true false v q = let w : ◌≡◌ {A = ℕ} 0 1 = cc in absurd (omega arith)
      go false u v q = let w : ◌≡◌ {A = ℕ} 0 1 = cc in absurd (omega arith)
