-- `line::write::roomy::packed::copied` meets its contract. Assumes nothing.
use Rattle.std.proofs.Common.{arith}
use Rattle.line.proofs.Moved as M
use Rattle.line.proofs.Texts as T
use Rattle.line.proofs.write.roomy.packed.copied.Goals as goal

pub returns : goal.returns
returns c =
    T.named 32
    (T.after c.copy_word-a.ensures (T.after c.copy_word-b.ensures (T.after c.copy_word-c.ensures c.copy_word.ensures)))
    (omega arith) (M.thirty_two c.args.line.now)
