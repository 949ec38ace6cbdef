-- `line::write::roomy::mostly_one` meets its contract. Assumes nothing.
use Rattle.std.proofs.Common.{sym, arith}
use Rattle.line.proofs.Texts as T
use Rattle.line.proofs.write.roomy.mostly_one.Goals as goal

pub returns-then-n-lt10 : goal.returns-then-n-lt10
returns-then-n-lt10 c = T.named 20 c.put.ensures (omega arith) (sym (T.decimal-one _ (omega arith)))
