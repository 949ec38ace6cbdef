-- `line::field::single` meets its contract. Assumes nothing.
use Rattle.std.proofs.Common.{◌+◌, ◌∷◌, get_or, refl, arith}
use Rattle.line.specs.Fields.{single}
use Rattle.line.proofs.Walk as W
use Rattle.line.proofs.field.single.Goals as goal
use Rattle.line.proofs.field.single.Goals.{then-at-s+else-s-at-ne-TAB, else-at-s}

pub returns-then-s-at-ne-TAB : goal.returns-then-s-at-ne-TAB
returns-then-s-at-ne-TAB c =
    let g = c.args in
    W.onto {rest = λ f. single (get_or g.s.now g.at 0 ∷ f)} (W.head-close g.s.now (g.at + 1) _ _ c.closed.ensures refl refl (λ l e f. refl)) (omega arith) c.if-s-at-ne-TAB.true (λ f. refl)

pub returns : goal.returns
returns c =
    let g = c.args in
    elim c.if-at-s.branch [
      | then-at-s+else-s-at-ne-TAB w ↦ W.got-none (W.head-nothing g.s.now g.at _ (λ l. w.if-s-at-ne-TAB.false) refl) (omega arith)
      | else-at-s w ↦ W.got-none (W.head-nothing g.s.now g.at _ (λ l. absurd (omega arith)) refl) (omega arith)
    ]
