-- `line::write::roomy::up_to_eight` meets its contract. Assumes nothing.
use Rattle.std.proofs.Common.{arith}
use Rattle.line.proofs.Texts as T
use Rattle.line.proofs.Leading as D
use Rattle.line.proofs.write.roomy.up_to_eight.Goals as goal

pub returns-else-n-lt10000 : goal.returns-else-n-lt10000
returns-else-n-lt10000 c = T.named 8 (D.after 4 c.leading-a.ensures c.four_digits.ensures (omega arith) (omega arith)) (omega arith) (T.four-end _ (omega arith))
