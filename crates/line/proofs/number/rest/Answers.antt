-- `line::number::rest` meets its contract. Assumes nothing.
use Rattle.std.proofs.Common.{arith}
use Rattle.line.proofs.Numbers as N
use Rattle.line.proofs.number.rest.Goals as goal
use Rattle.line.proofs.number.rest.Goals.{then-loop-i-test+else-is_ascii_digit, else-loop-i-test}

pub loop-i-preserved : goal.loop-i-preserved
loop-i-preserved c = let d = c.if-is_ascii_digit.ensures.cases in λ n long. c.loop-i.invariant n (N.long-on _ c.loop-i.i (omega arith) d.0 d.1 n long)

pub returns : goal.returns
returns c =
    elim c.loop-i-test.branch [
      | then-loop-i-test+else-is_ascii_digit w ↦ c.loop-i.invariant _ (N.long-close c.closed.ensures (λ l. N.not-digit w.if-is_ascii_digit.ensures.cases))
      | else-loop-i-test w ↦ c.loop-i.invariant _ (N.long-close c.closed.ensures (λ l. absurd (omega arith)))
    ]
