-- `line::field::closed` meets its contract. Assumes nothing.
use Rattle.std.proofs.Common.{refl, arith}
use Rattle.line.proofs.Walk as W
use Rattle.line.proofs.field.closed.Goals as goal
use Rattle.line.proofs.field.closed.Goals.{then-at-s+else-s-at-eq-TAB, else-at-s+else-at-s-2}

pub returns-then-s-at-eq-TAB : goal.returns-then-s-at-eq-TAB
returns-then-s-at-eq-TAB c = let g = c.args in W.ends-here (W.from-tab g.s.now g.at (omega arith) (omega arith)) (omega arith)

pub returns-then-at-s-2 : goal.returns-then-at-s-2
returns-then-at-s-2 c = let g = c.args in W.ends-here (W.from_end g.s.now g.at (omega arith)) (omega arith)

pub returns : goal.returns
returns c =
    let g = c.args in
    elim c.if-at-s.branch [
      | then-at-s+else-s-at-eq-TAB w ↦ W.got-none (W.head-off g.s.now g.at _ (omega arith) w.if-s-at-eq-TAB.false (λ f. refl)) (omega arith)
      | else-at-s+else-at-s-2 w ↦ W.got-none (W.head-past g.s.now g.at _ (omega arith)) (omega arith)
    ]
