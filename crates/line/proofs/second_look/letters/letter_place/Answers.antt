-- `line::second_look::letters::letter_place` meets its contract. Assumes nothing.
use Rattle.std.proofs.Common.{[], ◌∷◌, length, refl, sym, ◌∙◌, le-leb, leb-true, arith}
use Rattle.std.proofs.lemmas.Bool.{leb-false}
use Rattle.line.specs.Malformed.{numbers}
use Rattle.line.proofs.Letters as L
use Rattle.line.proofs.second_look.letters.letter_place.Goals as goal

pub returns-then-mark-eq-NODE : goal.returns-then-mark-eq-NODE
returns-then-mark-eq-NODE c = rw c.if-mark-eq-NODE.true (L.none-wrong (numbers 3) refl)

pub returns-then-not-is_read : goal.returns-then-not-is_read
returns-then-not-is_read c =
    let g = c.args in
    rw (L.begins g.mark g.kind c.if-mark-eq-NODE.false, ← c.initial-l.ensures)
    (rw (le-leb 0 (length g.s.now) (omega arith)) at
    (L.letter-wrong (c.initial-l.result ∷ []) (L.behind g.mark g.kind) c.letter-next.ensures (leb-false _ _ (sym c.is_read.ensures ∙ c.if-not-is_read.true))))

pub returns-then-mark-eq83 : goal.returns-then-mark-eq83
returns-then-mark-eq83 c =
    let g = c.args in
    rw (L.begins g.mark g.kind c.if-mark-eq-NODE.false, ← c.initial-l.ensures)
    (L.letter-on (c.initial-l.result ∷ []) (L.behind g.mark g.kind) c.letter-next.ensures (leb-true _ _ (sym c.is_read.ensures ∙ c.if-not-is_read.false))
    (rw c.if-mark-eq83.true c.step_letter.ensures))

pub returns-else-mark-eq83 : goal.returns-else-mark-eq83
returns-else-mark-eq83 c =
    let g = c.args in
    rw (L.begins g.mark g.kind c.if-mark-eq-NODE.false, ← c.initial-l.ensures)
    (L.letter-on (c.initial-l.result ∷ []) (L.behind g.mark g.kind) c.letter-next.ensures (leb-true _ _ (sym c.is_read.ensures ∙ c.if-not-is_read.false))
    (L.none-wrong (L.behind g.mark g.kind) (L.no_kind g.mark g.kind c.if-mark-eq83.false)))
