-- `line::write::roomy::letter` meets its contract. Assumes nothing.
use Rattle.std.proofs.Common.{refl, arith}
use Rattle.line.proofs.Texts as T
use Rattle.line.proofs.write.roomy.letter.Goals as goal

pub returns : goal.returns
returns c = T.both 2 c.put-a.ensures c.put.ensures (omega arith) refl
