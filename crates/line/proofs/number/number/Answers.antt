-- `line::number::number` meets its contract. Assumes nothing.
use Rattle.std.proofs.Common.{◌≡◌, arith, w64, to_z, of_z, rules}
use Rattle.line.proofs.Walk as W
use Rattle.line.proofs.Numbers as N
use Rattle.line.proofs.number.number.Goals as goal
use Rattle.line.proofs.number.number.Goals.{then-n-eq0, else-n-eq0}

pub returns-then-s-at : goal.returns-then-s-at
returns-then-s-at c = let g = c.args in W.got-none (W.head-nothing g.s.now g.at _ (λ l. absurd (omega arith)) N.number-none) (omega arith)

pub returns-after-n-eq0 : goal.returns-after-n-eq0
returns-after-n-eq0 c =
    let z = c.below_zero.result in
    let e : to_z w64 (of_z w64 z) ≡ z = search rules in
    let u = c.unsigned-m.ensures.got in
    let m = c.if-s-at-eq-MINUS.true in
    rw (e, c.below_zero.ensures)
    (elim c.if-n-eq0.branch [
      | then-n-eq0 w ↦ N.below (omega arith) u m (λ q. omega arith) (λ q. absurd (q w.if-n-eq0.true))
      | else-n-eq0 w ↦ N.below (omega arith) u m (λ q. absurd (w.if-n-eq0.false q)) (λ q. w.next-is)
    ])

pub returns-else-s-at-eq-MINUS : goal.returns-else-s-at-eq-MINUS
returns-else-s-at-eq-MINUS c =
    let z = c.above_zero.result in
    let e : to_z w64 (of_z w64 z) ≡ z = search rules in
    rw (e, c.above_zero.ensures) (N.above (omega arith) c.unsigned-m-else-s-at-eq-MINUS.ensures.got c.if-s-at-eq-MINUS.false)
