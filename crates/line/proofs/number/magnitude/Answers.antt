-- `line::number::magnitude` meets its contract. Assumes nothing.
use Rattle.std.proofs.Common.{arith}
use Rattle.line.proofs.Numbers as N
use Rattle.line.proofs.number.magnitude.Goals as goal
use Rattle.line.proofs.number.magnitude.Goals.{then-loop-i-test+else-is_ascii_digit, else-loop-i-test}

pub loop-i-preserved : goal.loop-i-preserved
loop-i-preserved c =
    let k = c.loop-i in
    let d = c.if-is_ascii_digit.ensures.cases in
    (omega (arith, d), λ v n g. k.invariant.1 v n (N.digit-on k.a _ g (omega arith) (omega arith) d.0 d.1))

pub returns : goal.returns
returns c =
    let k = c.loop-i in
    record {
      got =
          elim c.loop-i-test.branch [
            | then-loop-i-test+else-is_ascii_digit w ↦ k.invariant.1 _ _ (N.digits-close k.a c.closed.ensures c.at_most_cap.ensures (λ l. N.not-digit w.if-is_ascii_digit.ensures.cases))
            | else-loop-i-test w ↦ k.invariant.1 _ _ (N.digits-close k.a c.closed.ensures c.at_most_cap.ensures (λ l. absurd (omega arith)))
          ];
      small = omega arith;
    }
