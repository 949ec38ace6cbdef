-- A line that is read by its form: from what its fields tell to the reader's answer. Assumes nothing.
use Rattle.std.proofs.Common.{◌≡◌, ℕ, ◌+◌, ◌<◌, List, length, Bor, Ok, Err, sym, refl, ap, ◌∙◌, arith}
use Rattle.std.specs.Prelude.{Result}
use mathlib.Core.Option.{Option, none, some, map}
use Rattle.line.specs.declared.Fault as declared
use Rattle.line.specs.Answers.{Fault, Line, Good, Malformed, Refused, fault_told, form_fault_told}
use Rattle.line.specs.Fields.{body, fields, Form, filled, in_body, said}
use Rattle.line.specs.Malformed.{Shape, end_of, body_fault, fault_of}
use Rattle.line.specs.Reading.{Bodied, TellsLine, Told, itself, in_line, form_as}
use Rattle.line.specs.declared.form.Fields.{Fields}
use Rattle.line.specs.Readers.{judged, read_as}
use Rattle.ranges.proofs.Carried.{Careful}
use Rattle.refusal.specs.Refusals.{number}
use Rattle.refusal.specs.declared.Refusal.{Refusal}
use Rattle.refusal.proofs.Refusals.{not-none}
use Rattle.line.proofs.Answers as answers
use Rattle.line.proofs.GoodForm.{Exactly}
use Rattle.line.proofs.Malformed.{nothing}
use Rattle.line.proofs.Walk as W

-- ---- a line's bytes before its line feed, as the code hands them on
module _ (line : List ℕ) where
  pub bodied-some : (b : Bor (List ℕ)) → Bodied (body line) (end_of line) (Ok b) → body line ≡ some b.now
  bodied-some b e = go (body line) e
    where
      go : (o : Option (List ℕ)) → Bodied o (end_of line) (Ok b) → o ≡ some b.now
      go none e = absurd e
      go (some s) e = ap some (sym e)

  -- none, and the line is refused for its length, whatever its shape
  pub bodied-none : (f : declared.Fault) → Bodied (body line) (end_of line) (Err f) → body line ≡ none
  bodied-none f e = go (body line) e
    where
      go : (o : Option (List ℕ)) → Bodied o (end_of line) (Err f) → o ≡ none
      go none e = refl
      go (some s) e = absurd e

  pub too_long : (f : declared.Fault) (shape : Shape) → Bodied (body line) (end_of line) (Err f) → fault_told f ≡ fault_of shape line
  unfolding fault_of
  too_long f shape e = go (body line) e
    where
      go : (o : Option (List ℕ)) → Bodied o (end_of line) (Err f) → fault_told f ≡ body_fault shape (end_of line) o
      go none e = e
      go (some s) e = absurd e

module _ {T : Type 0} (line : List ℕ) (shape : Shape) (says : List ℕ → Option T) where
  abbrev pub Answer : Result T Fault
  Answer = form_as (fault_of shape line) (in_line says (body line))

  -- too long, or no line feed at its end
  pub no-body : (f : declared.Fault) → Bodied (body line) (end_of line) (Err f) → Err (fault_told f) ≡ Answer
  no-body f b = rw (bodied-none line f b) (ap Err (too_long line f shape b))

  module _ (b : Bor (List ℕ)) (bodied : Bodied (body line) (end_of line) (Ok b)) (v : T) (next : ℕ) (tells : TellsLine b.now itself (says b.now) v next) where
    said-is : in_line says (body line) ≡ says b.now
    said-is = ap (in_line says) (bodied-some line b bodied)

    -- every field good, and none left over
    pub whole : next ≡ length b.now + 1 → Ok v ≡ Answer
    whole n = rw said-is (go (says b.now) tells)
      where
        go : (o : Option T) → TellsLine b.now itself o v next → Ok v ≡ form_as (fault_of shape line) o
        go none t = absurd (t n)
        go (some a) t = ap Ok t.0

    -- a field bad, missing or left over
    unsaid : (next ≡ length b.now + 1 → ⊥) → in_line says (body line) ≡ none
    unsaid n = said-is ∙ go (says b.now) tells
      where
        go : (o : Option T) → TellsLine b.now itself o v next → o ≡ none
        go none t = refl
        go (some a) t = absurd (n t.1)

    pub bad : (next ≡ length b.now + 1 → ⊥) → (f : declared.Fault) → fault_told f ≡ fault_of shape line → Err (fault_told f) ≡ Answer
    bad n f e = rw (unsaid n) (ap Err e)

    -- and then something is found wrong
    pub found : (in_line says (body line) ≡ none → 0 < (fault_of shape line).number) → (next ≡ length b.now + 1 → ⊥)
        → form_fault_told (Ok tt) ≡ fault_of shape line → ⊥
    found wrong n e = let w = wrong (unsaid n) in let z : 0 ≡ (fault_of shape line).number = ap (λ (f : Fault). f.number) e in omega arith

-- ---- a reader that is handed the fields of a form, with the record as it is carried
module _ {A C : Type 0} (form : Form A) (carried : A → C) where
  abbrev says : List ℕ → Option C
  says s = map carried (filled form (fields s))

  tells : {s : List ℕ} {v : C} {next : ℕ} → Told s carried form 0 v next → TellsLine s itself (says s) v next
  tells {s} {v} {next} t = go (filled form (fields s)) (rw (W.from_start s) at t.tells)
    where
      go : (o : Option A) → TellsLine s carried o v next → TellsLine s itself (map carried o) v next
      go none k = k
      go (some a) k = k

  says-line : (line : List ℕ) → in_line says (body line) ≡ map carried (said form line)
  says-line line = go (body line)
    where
      go : (o : Option (List ℕ)) → in_line says o ≡ map carried (in_body form o)
      go none = refl
      go (some s) = refl

  unsaid-none : (o : Option A) → map carried o ≡ none → o ≡ none
  unsaid-none none e = refl
  unsaid-none (some a) e = absurd (nothing (sym e))

  -- what it promises, and so what it answers
  abbrev pub Promises : Result C Fault → List ℕ → Fault → Type 0
  Promises x line f =
      (says : List ℕ → Option C) → ((s : Bor (List ℕ)) (r : Fields C) → Told s.now carried form 0 r.record r.next → TellsLine s.now itself (says s.now) r.record r.next)
      → (in_line says (body line) ≡ none → 0 < f.number) → x ≡ form_as f (in_line says (body line))

  pub read : (line : List ℕ) (f : Fault) (x : Result C Fault) → Exactly (said form line) f → Promises x line f → x ≡ form_as f (map carried (said form line))
  read line f x e p =
      p says (λ s r t. tells t) (λ n. e.0 (unsaid-none (said form line) (sym (says-line line) ∙ n)))
      ∙ ap (form_as f) (says-line line)

-- ---- a record that is judged by its fault
module _ {A : Type 0} (fault : A → ℕ) {carried : A → A} (careful : Careful fault carried) (f : Fault) (o : Option A) where
  abbrev pub Judged : Line A
  Judged = read_as fault Good Refused (Malformed f) o

  pub malformed : (g : Fault) → Err g ≡ form_as f (map carried o) → Malformed g ≡ Judged
  malformed g e = go o e
    where
      go : (o : Option A) → Err g ≡ form_as f (map carried o) → Malformed g ≡ read_as fault Good Refused (Malformed f) o
      go none e = let z : g ≡ f = cc in ap Malformed z
      go (some a) e = let z : ◌≡◌ {A = ℕ} 0 1 = cc in absurd (omega arith)

  judged-as : (v : A) → Ok v ≡ form_as f (map carried o) → (x : Line A) → x ≡ judged fault Good Refused v → x ≡ Judged
  judged-as v e x j = go o e
    where
      go : (o : Option A) → Ok v ≡ form_as f (map carried o) → x ≡ read_as fault Good Refused (Malformed f) o
      go none e = let z : ◌≡◌ {A = ℕ} 0 1 = cc in absurd (omega arith)
      go (some a) e = let z : v ≡ carried a = cc in j ∙ ap (judged fault Good Refused) z ∙ answers.judged-same fault Good Refused careful a

  pub good : (v : A) → Ok v ≡ form_as f (map carried o) → 0 ≡ fault v → Good v ≡ Judged
  good v e n = judged-as v e (Good v) (answers.judge-none fault Good Refused v 0 n refl)

  pub refused : (v : A) → Ok v ≡ form_as f (map carried o) → (r : Refusal) → number r ≡ fault v → Refused (number r) ≡ Judged
  refused v e r n = judged-as v e (Refused (number r)) (answers.judge-some fault Good Refused v (number r) n (not-none r))
