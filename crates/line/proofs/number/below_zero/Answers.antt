-- `line::number::below_zero` meets its contract. Assumes nothing.
use Rattle.line.proofs.Numbers as N
use Rattle.line.proofs.number.below_zero.Goals as goal

pub overflow_sub-result : goal.overflow_sub-result
overflow_sub-result c = N.neg-fits _ c.requires

pub returns : goal.returns
returns c = N.neg_is _ c.requires
