-- `line::second_look::letters::step_letter` meets its contract. Assumes nothing.
use Rattle.std.proofs.Common.{ℕ, List, [], ◌∷◌, ◌++◌, refl, sym, ◌∙◌, leb-true}
use Rattle.std.proofs.lemmas.Bool.{leb-false}
use Rattle.line.specs.Bytes.{letter_t, letter_v, letter_b, letter_f, letter_p, letter_c}
use Rattle.line.specs.Malformed.{letters, numbers, kind_shape}
use Rattle.line.proofs.Letters as L
use Rattle.line.proofs.second_look.letters.step_letter.Goals as goal

abbrev kinds : List ℕ
kinds = letter_t ∷ letter_v ∷ letter_b ∷ letter_f ∷ []

abbrev conventions : List ℕ
conventions = letter_p ∷ letter_c ∷ []

pub returns-then-not-is_read : goal.returns-then-not-is_read
returns-then-not-is_read c =
    rw c.here.ensures
    (L.letter-wrong kinds (numbers 4 ++ kind_shape c.args.kind) c.kind_letter-c.ensures (leb-false _ _ (sym c.is_read.ensures ∙ c.if-not-is_read.true)))

pub returns-then-kind-ne66 : goal.returns-then-kind-ne66
returns-then-kind-ne66 c =
    let cs = numbers 4 ++ kind_shape c.args.kind in
    L.letter-on kinds cs c.kind_letter-c.ensures (leb-true _ _ (sym c.is_read.ensures ∙ c.if-not-is_read.false))
    (L.none-wrong cs (L.no-convention _ c.if-kind-ne66.true))

pub returns-then-is_read : goal.returns-then-is_read
returns-then-is_read c =
    rw c.if-kind-ne66.false
    (L.letter-on kinds (numbers 4 ++ (letters conventions ∷ numbers 7)) c.kind_letter-c.ensures (leb-true _ _ (sym c.is_read.ensures ∙ c.if-not-is_read.false))
    (L.after-numbers (letters conventions ∷ numbers 7) c.skip-seventh.ensures
    (L.letter-on conventions (numbers 7) c.convention_letter-d.ensures (leb-true _ _ (sym c.is_read-2.ensures ∙ c.if-is_read.true)) (L.none-wrong (numbers 7) refl))))

pub returns-else-is_read : goal.returns-else-is_read
returns-else-is_read c =
    rw (c.if-kind-ne66.false, c.here-else-is_read.ensures)
    (L.letter-on kinds (numbers 4 ++ (letters conventions ∷ numbers 7)) c.kind_letter-c.ensures (leb-true _ _ (sym c.is_read.ensures ∙ c.if-not-is_read.false))
    (L.after-numbers (letters conventions ∷ numbers 7) c.skip-seventh.ensures
    (L.letter-wrong conventions (numbers 7) c.convention_letter-d.ensures (leb-false _ _ (sym c.is_read-2.ensures ∙ c.if-is_read.false)))))
