-- `line::write::roomy::relabelled` meets its contract. Assumes nothing.
use Rattle.std.proofs.Common.{arith}
use Rattle.line.proofs.Moved as M
use Rattle.line.proofs.write.roomy.relabelled.Goals as goal

pub copied-requires : goal.copied-requires
copied-requires c = (omega arith, c.requires.1.enough)

pub overflow_add-at : goal.overflow_add-at
overflow_add-at c = omega (arith, c.requires.1.few)

pub moved-requires : goal.moved-requires
moved-requires c = omega (arith, c.requires.1.few)

pub returns : goal.returns
returns c =
    M.relabel c.args.line.now c.args.p c.args.r c.requires.1 c.requires.0 c.copied.ensures c.moved.ensures
