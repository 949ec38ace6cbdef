-- `line::write::roomy::packed::copy_word` meets its contract. Assumes nothing.
use Rattle.std.proofs.Common.{arith}
use Rattle.line.proofs.Moved as M
use Rattle.line.proofs.Texts as T
use Rattle.line.proofs.write.roomy.packed.copy_word.Goals as goal

pub returns : goal.returns
returns c = T.named 8 c.put_word.ensures (omega arith) (M.word-bytes c.word.ensures c.requires.1)
