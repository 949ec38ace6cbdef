-- `line::write::roomy::moved` meets its contract. Assumes nothing.
use Rattle.std.proofs.Common.{arith}
use Rattle.line.proofs.Moved as M
use Rattle.line.proofs.Texts as T
use Rattle.line.proofs.write.roomy.moved.Goals as goal

pub returns : goal.returns
returns c =
    T.named 110 (T.after c.realization-a.ensures c.position.ensures) (omega arith) (M.moved-put c.args.r c.args.p)
