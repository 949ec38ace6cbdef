-- `line::number::unsigned` meets its contract. Assumes nothing.
use Rattle.std.proofs.Common.{arith}
use Rattle.line.proofs.Walk as W
use Rattle.line.proofs.Numbers as N
use Rattle.line.proofs.number.unsigned.Goals as goal
use Rattle.line.proofs.number.unsigned.Goals.{then-at-s+else-b-eq-ZERO+else-is_ascii_digit, else-at-s}

pub returns-then-b-eq-ZERO : goal.returns-then-b-eq-ZERO
returns-then-b-eq-ZERO c = record { got = N.zero-alone (omega arith) c.closed.ensures c.if-b-eq-ZERO.true; small = omega arith }

pub returns-then-is_ascii_digit : goal.returns-then-is_ascii_digit
returns-then-is_ascii_digit c =
    let d = c.if-is_ascii_digit.ensures.cases in
    record { got = N.first-digit (omega arith) _ c.magnitude.ensures.got (omega arith) (omega (arith, d)) d.1; small = c.magnitude.ensures.small }

pub returns : goal.returns
returns c =
    let g = c.args in
    record {
      got =
          elim c.if-at-s.branch [
            | then-at-s+else-b-eq-ZERO+else-is_ascii_digit w ↦ W.got-none (N.no_digit g.s.now g.at (λ l. N.not-digit w.if-is_ascii_digit.ensures.cases)) (omega arith)
            | else-at-s w ↦ W.got-none (N.no_digit g.s.now g.at (λ l. absurd (omega arith))) (omega arith)
          ];
      small = omega arith;
    }
