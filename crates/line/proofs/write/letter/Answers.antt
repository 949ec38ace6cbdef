-- `line::write::letter` meets its contract. Assumes nothing.
use Rattle.line.proofs.Texts as T
use Rattle.line.proofs.write.letter.Goals as goal

pub returns : goal.returns
returns c = T.«then» c.byte-a.ensures c.byte.ensures
