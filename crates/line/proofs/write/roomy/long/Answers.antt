use Rattle.std.proofs.Common.{arith}
use Rattle.line.proofs.Texts as T
use Rattle.line.proofs.Leading as D
use Rattle.line.proofs.write.roomy.long.Goals as goal

pub returns : goal.returns
returns c = T.named 20 (D.after 8 c.mostly_four-a.ensures c.eight_digits.ensures (omega arith) (omega arith)) (omega arith) (T.eight-end _ (omega arith))
