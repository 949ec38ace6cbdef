-- `line::write::roomy::up_to_two` meets its contract. Assumes nothing.
use Rattle.std.proofs.Common.{sym, arith}
use Rattle.line.proofs.Texts as T
use Rattle.line.proofs.write.roomy.up_to_two.Goals as goal

pub returns-then-n-lt10 : goal.returns-then-n-lt10
returns-then-n-lt10 c = T.named 2 c.put.ensures (omega arith) (sym (T.decimal-one _ (omega arith)))

pub returns-else-n-lt10 : goal.returns-else-n-lt10
returns-else-n-lt10 c = T.named 2 c.pair.ensures (omega arith) (T.two_is _ (omega arith) (omega arith))
