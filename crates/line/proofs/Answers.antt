-- A whole line: from the fields that the code has read to the line's answer.
use Rattle.std.proofs.Common.{◌≡◌, ℕ, ◌+◌, ◌<◌, ◌≤◌, List, length, take, sym, refl, ap, ◌∙◌, arith, length-take-le, eq-eqb, ne_eqb}
use mathlib.Core.Option.{Option, none, some}
use native.Mathlib.Decide.{ℕ_discrete}
use Rattle.ranges.proofs.Carried.{Careful}
use Rattle.line.specs.Fields.{body, fields, Form, filled, in_body, said}
use Rattle.line.specs.Readers.{judged, read_as}
use Rattle.line.specs.Reading.{TellsLine, Told, Framed}
use Rattle.line.proofs.Walk as W

-- ---- whatever a line that says this is answered
module _ {A R : Type 0} (answer : Option A → R) (form : Form A) (line : List ℕ) (end : ℕ) (framed : Framed line end (body line)) where
  -- too long, or no line feed at its end
  pub no-frame : length line ≤ end → answer none ≡ answer (said form line)
  no-frame h = go (body line) framed
    where
      go : (o : Option (List ℕ)) → Framed line end o → answer none ≡ answer (in_body form o)
      go none f = refl
      go (some s) f = absurd (omega arith)

  module _ {C : Type 0} (h : end < length line) {carried : A → C} {v : C} {next : ℕ} (told : Told (take end line) carried form 0 v next) where
    by-frame : (x : R) → ((o : Option A) → TellsLine (take end line) carried o v next → x ≡ answer o) → x ≡ answer (said form line)
    by-frame x k = go (body line) framed
      where
        go : (o : Option (List ℕ)) → Framed line end o → x ≡ answer (in_body form o)
        go none f = absurd (omega arith)
        go (some s) f =
            rw (← f.1)
            (k (filled form (fields (take end line)))
            (rw (W.from_start (take end line)) at told.tells))

    body-length : length (take end line) ≡ end
    body-length = length-take-le end line (omega arith)

    -- a field bad, missing or left over
    pub no-form : (next ≡ end + 1 → ⊥) → answer none ≡ answer (said form line)
    no-form n = by-frame (answer none) go
      where
        go : (o : Option A) → TellsLine (take end line) carried o v next → answer none ≡ answer o
        go none t = refl
        go (some a) t = absurd (n (t.1 ∙ ap (λ (k : ℕ). k + 1) body-length))

    pub of-form : (x : R) → next ≡ end + 1 → ((a : A) → v ≡ carried a → x ≡ answer (some a)) → x ≡ answer (said form line)
    of-form x n e = by-frame x go
      where
        go : (o : Option A) → TellsLine (take end line) carried o v next → x ≡ answer o
        go none t = absurd (t (n ∙ ap (λ (k : ℕ). k + 1) (sym body-length)))
        go (some a) t = e a t.0

-- ---- a line whose record is judged by its fault
module _ {A R : Type 0} (fault_of : A → ℕ) (good : A → R) (refused : ℕ → R) where
  judged-none : (a : A) → fault_of a ≡ 0 → judged fault_of good refused a ≡ good a
  judged-none a e = rw (eq-eqb (fault_of a) 0 e)

  judged-some : (a : A) → (fault_of a ≡ 0 → ⊥) → judged fault_of good refused a ≡ refused (fault_of a)
  judged-some a e = rw (ne_eqb (fault_of a) 0 e)

  -- what the code does with a fault's number
  pub judge-none : (a : A) (n : ℕ) → n ≡ fault_of a → n ≡ 0 → good a ≡ judged fault_of good refused a
  judge-none a n e z = sym (judged-none a (sym e ∙ z))

  pub judge-some : (a : A) (n : ℕ) → n ≡ fault_of a → (n ≡ 0 → ⊥) → refused n ≡ judged fault_of good refused a
  judge-some a n e z = ap refused e ∙ sym (judged-some a (λ q. z (e ∙ q)))

  module _ {carried : A → A} (careful : Careful fault_of carried) where
    pub judged-same : (a : A) → judged fault_of good refused (carried a) ≡ judged fault_of good refused a
    judged-same a = go (ℕ_discrete (fault_of a) 0)
      where
        go : Dec (fault_of a ≡ 0) → judged fault_of good refused (carried a) ≡ judged fault_of good refused a
        go (yes e) = ap (judged fault_of good refused) (careful.kept a e)
        go (no e) =
            judged-some (carried a) (λ q. e (sym (careful.same a) ∙ q)) ∙ ap refused (careful.same a)
            ∙ sym (judged-some a e)

    module _ (malformed : R) (form : Form A) (line : List ℕ) (end : ℕ) (framed : Framed line end (body line)) where
      abbrev Answer : R
      Answer = read_as fault_of good refused malformed (said form line)

      pub bad-frame : length line ≤ end → malformed ≡ Answer
      bad-frame h = no-frame (read_as fault_of good refused malformed) form line end framed h

      module _ (h : end < length line) {v : A} {next : ℕ} (told : Told (take end line) carried form 0 v next) where
        pub bad-form : (next ≡ end + 1 → ⊥) → malformed ≡ Answer
        bad-form n = no-form (read_as fault_of good refused malformed) form line end framed h told n

        pub good-form : (x : R) → next ≡ end + 1 → x ≡ judged fault_of good refused v → x ≡ Answer
        good-form x n e = of-form (read_as fault_of good refused malformed) form line end framed h told x n (λ a q. e ∙ ap (judged fault_of good refused) q ∙ judged-same a)
