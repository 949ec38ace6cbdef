-- Where a letter of a line is wrong: the fields of letters are read one after the other, those between them are passed. Assumes nothing.
use Rattle.std.proofs.Common.{◌≡◌, ℕ, ◌+◌, ◌<◌, ◌≤◌, Bool, true, false, eqb, leb, List, [], ◌∷◌, ◌++◌, length, sym, refl, ap, ◌∙◌, add-one, arith, ne_eqb, le-leb}
use mathlib.Core.Option.{Option, none, some}
use native.Mathlib.Decide.{dec_lt}
use Rattle.std.specs.declared.option.Option as declared
use Rattle.std.specs.declared.option.Option.TheVariants.{None}
use Rattle.std.specs.Bool.{then_some}
use borrow.Author.Tests.{lt-leb}
use Rattle.refusal.specs.Numbers as refusal
use Rattle.refusal.specs.Order.{pick}
use Rattle.line.specs.Bytes.{minus, letter_s, letter_t, letter_v, letter_b, letter_p, letter_o, letter_g, letter_e}
use Rattle.line.specs.Fields.{taken, head, letter_of}
use Rattle.line.specs.Malformed.{Class, letters, identifier, number, numbers, kind_shape, unread, offending}
use Rattle.line.specs.Name.{name_of}
use Rattle.line.specs.Number.{number_of}
use Rattle.line.specs.Reading.{from, Tells, Got}
use Rattle.line.specs.SecondLook.{rest_of, lettered_of, grid_mark, grid_classes, classes_of, Passed, FirstWrong, Skipped}
use Rattle.line.proofs.Places.{next_place}
use Rattle.line.proofs.SecondLook.{offending-none}
use Rattle.line.proofs.Walk as W

-- ---- where no letter is to be, none is wrong
abbrev unlettered : List Class → Bool
unlettered [] = true
unlettered (letters ls ∷ cs) = false
unlettered (identifier ∷ cs) = unlettered cs
unlettered (number ∷ cs) = unlettered cs

other-number : {A : Type 0} (n : ℕ) → eqb n refusal.letter ≡ false → (o : Option A) → eqb (unread n o) refusal.letter ≡ false
other-number n e none = e
other-number n e (some a) = refl

none-offends : (at : ℕ) (cs : List Class) (fs : List (List ℕ)) → unlettered cs ≡ true → offending refusal.letter at cs fs ≡ none
unfolding offending
none-offends at [] fs e = refl
none-offends at (letters ls ∷ cs) fs e = let w : ◌≡◌ {A = ℕ} 0 1 = cc in absurd (omega arith)
none-offends at (identifier ∷ cs) [] e = refl
none-offends at (identifier ∷ cs) (f ∷ fs) e = rw (other-number refusal.id refl (name_of f)) (none-offends (at + length f + 1) cs fs e)
none-offends at (number ∷ cs) [] e = refl
none-offends at (number ∷ cs) (f ∷ fs) e = rw (other-number refusal.plain refl (number_of f)) (none-offends (at + length f + 1) cs fs e)

pub none-wrong : {s : List ℕ} {at : ℕ} (cs : List Class) → unlettered cs ≡ true → FirstWrong refusal.letter s at cs None
none-wrong {s} {at} cs e = record { is = sym (none-offends at cs (from s at) e); within = tt }

-- ---- a field of letters, and the fields after it
module _ {C : Type 0} {s : List ℕ} {image : ℕ → C} {at : ℕ} {v : C} {next : ℕ} (ls : List ℕ) (cs : List Class) (g : Got s image (letter_of ls) at v next) where
  -- past the end, where there is no such field, none is wrong
  pub letter-wrong : length s + 1 < next → FirstWrong refusal.letter s at (letters ls ∷ cs) (then_some (leb at (length s)) at)
  unfolding offending
  letter-wrong h = go (dec_lt (length s) at)
    where
      by : (o : Option ℕ) (fs : List (List ℕ)) (later : Option ℕ) → Tells s image (taken o fs) v next
          → some at ≡ pick (eqb (unread refusal.letter o) refusal.letter) (some at) later
      by none fs later t = refl
      by (some b) fs later t = absurd (omega (arith, t.1))

      go : Dec (length s < at) → FirstWrong refusal.letter s at (letters ls ∷ cs) (then_some (leb at (length s)) at)
      go (yes l) = rw (lt-leb at (length s) l) (record { is = rw (W.from_past s at l); within = tt })
      go (no l) =
          let x = W.field_at s at (omega arith) in
          let m : at ≤ length s = omega arith in
          rw (le-leb at (length s) m)
          (record {
            is = rw x.is (by (letter_of ls x.first) x.rest (offending refusal.letter (at + length x.first + 1) cs x.rest) (rw x.is at g.tells));
            within = m;
          })

  pub letter-on : {place : declared.Option ℕ} → next ≤ length s + 1 → FirstWrong refusal.letter s next cs place → FirstWrong refusal.letter s at (letters ls ∷ cs) place
  unfolding offending
  letter-on {place} h w = record { is = w.is ∙ go (from s at) refl g.tells; within = w.within }
    where
      go : (fs : List (List ℕ)) → from s at ≡ fs → Tells s image (head (letter_of ls) fs) v next
          → offending refusal.letter next cs (from s next) ≡ offending refusal.letter at (letters ls ∷ cs) fs
      go [] e t = absurd (omega arith)
      go (f ∷ fs) e t = by (letter_of ls f) t
        where
          by : (o : Option ℕ) → Tells s image (taken o fs) v next
              → offending refusal.letter next cs (from s next)
              ≡ pick (eqb (unread refusal.letter o) refusal.letter) (some at) (offending refusal.letter (at + length f + 1) cs fs)
          by none t = absurd (omega arith)
          by (some b) t =
              let n : next ≡ at + length f + 1 = omega (arith, next_place s at next e t.2 t.1) in
              rw t.2 (ap (λ (k : ℕ). offending refusal.letter k cs fs) n)

-- ---- numbers that are passed: `left` of them are still to be
pub record Skipping (s : List ℕ) (many at left i : ℕ) : Type 0 where
  pub same : (cs : List Class) → offending refusal.letter at (numbers many ++ cs) (from s at) ≡ offending refusal.letter i (numbers left ++ cs) (from s i)

pub skipping : {s : List ℕ} {many at : ℕ} → Skipping s many at many at
skipping = record { same = λ cs. refl }

module _ {s : List ℕ} {many at left i : ℕ} (k : Skipping s many at left i) where
  pub skipping-on : {next : ℕ} (rest : ℕ) → Passed s i next → left ≡ rest + 1 → Skipping s many at rest next
  unfolding offending
  skipping-on {next} rest p e = record { same = λ cs. k.same cs ∙ on cs }
    where
      on : (cs : List Class) → offending refusal.letter i (numbers left ++ cs) (from s i) ≡ offending refusal.letter next (numbers rest ++ cs) (from s next)
      on cs =
          rw (e, add-one rest, p.there, other-number refusal.plain refl (number_of p.bytes))
          (ap (λ (j : ℕ). offending refusal.letter j (numbers rest ++ cs) (from s next)) (sym p.place))

  pub skipped : left ≡ 0 → Skipped s many at i
  skipped e = record { same = λ cs. k.same cs ∙ rw e }

  -- past the end nothing is wrong
  pub skipped-past : length s < i → Skipped s many at i
  skipped-past h =
      record { same = λ cs. k.same cs ∙ rw (W.from_past s i h, offending-none refusal.letter i (numbers left ++ cs), offending-none refusal.letter i cs) }

pub after-numbers : {s : List ℕ} {many at next : ℕ} {place : declared.Option ℕ} (cs : List Class) → Skipped s many at next → FirstWrong refusal.letter s next cs place
    → FirstWrong refusal.letter s at (numbers many ++ cs) place
after-numbers cs k w = record { is = w.is ∙ sym (k.same cs); within = w.within }

-- ---- the letters of each line
-- no step but a Bursa-Wolf one has a letter after its kind
pub no-convention : (kind : ℕ) → (kind ≡ letter_b → ⊥) → unlettered (numbers 4 ++ kind_shape kind) ≡ true
no-convention kind n = rw (ne_eqb kind letter_b n) (go (eqb kind letter_t) (eqb kind letter_v))
  where
    go : (t v : Bool) → unlettered (pick t (numbers 3) (pick v (numbers 3) [])) ≡ true
    go true v = refl
    go false true = refl
    go false false = refl

-- what follows the first letter of a line that begins with one
abbrev pub behind : ℕ → ℕ → List Class
behind mark kind = pick (eqb mark grid_mark) (numbers 5) (rest_of mark kind)

pub begins : (mark kind : ℕ) → (mark ≡ minus → ⊥) → classes_of mark kind ≡ letters (pick (eqb mark grid_mark) letter_g mark ∷ []) ∷ behind mark kind
begins mark kind n = rw (ne_eqb mark minus n) (go (eqb mark grid_mark))
  where
    go : (t : Bool) → pick t grid_classes (lettered_of mark kind) ≡ letters (pick t letter_g mark ∷ []) ∷ pick t (numbers 5) (rest_of mark kind)
    go true = refl
    go false = refl

-- no line but a step has a letter after its first
pub no_kind : (mark kind : ℕ) → (mark ≡ letter_s → ⊥) → unlettered (behind mark kind) ≡ true
no_kind mark kind n = rw (ne_eqb mark letter_s n) (go (eqb mark grid_mark) (eqb mark letter_p) (eqb mark letter_o) (eqb mark letter_g) (eqb mark letter_e))
  where
    go : (grid p o g e : Bool)
        → unlettered
        (pick grid (numbers 5) (pick p (identifier ∷ numbers 7) (pick o (numbers 5) (pick g (identifier ∷ numbers 2) (pick e (numbers 1) [])))))
        ≡ true
    go true p o g e = refl
    go false true o g e = refl
    go false false true g e = refl
    go false false false true e = refl
    go false false false false true = refl
    go false false false false false = refl
