-- `line::write::name` meets its contract. Assumes nothing.
use Rattle.line.proofs.Texts as T
use Rattle.line.proofs.write.name.Goals as goal

pub returns : goal.returns
returns c =
    T.says (T.«then» c.word-a.ensures (T.«then» c.word-b.ensures c.byte.ensures)) (T.name-is _ 9)
