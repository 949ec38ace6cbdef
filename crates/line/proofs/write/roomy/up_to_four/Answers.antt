-- `line::write::roomy::up_to_four` meets its contract. Assumes nothing.
use Rattle.std.proofs.Common.{arith}
use Rattle.line.proofs.Texts as T
use Rattle.line.proofs.write.roomy.up_to_four.Goals as goal

pub returns-else-n-lt100 : goal.returns-else-n-lt100
returns-else-n-lt100 c = T.both 4 c.up_to_two-a.ensures c.pair.ensures (omega arith) (T.pair_end _ (omega arith))
