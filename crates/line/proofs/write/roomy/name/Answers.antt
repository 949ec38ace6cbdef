-- `line::write::roomy::name` meets its contract. Assumes nothing.
use Rattle.std.proofs.Common.{arith}
use Rattle.line.proofs.Texts as T
use Rattle.line.proofs.write.roomy.name.Goals as goal

pub returns : goal.returns
returns c =
    T.named 17 (T.after c.word-a.ensures (T.after c.word-b.ensures c.put.ensures)) (omega arith) (T.name-is _ 9)
