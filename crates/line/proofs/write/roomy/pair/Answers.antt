-- `line::write::roomy::pair` meets its contract: two stores side by side. Assumes nothing.
use Rattle.std.proofs.Common.{arith, length-set}
use Rattle.line.proofs.Texts as T
use Rattle.line.proofs.write.roomy.pair.Goals as goal

pub bounds-out-at-2 : goal.bounds-out-at-2
bounds-out-at-2 c = rw length-set (omega arith)

pub returns : goal.returns
returns c = T.packed c.args.out.now c.args.at c.args.v c.requires.0 c.requires.1
