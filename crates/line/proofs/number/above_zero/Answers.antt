-- `line::number::above_zero` meets its contract. Assumes nothing.
use Rattle.line.proofs.Numbers as N
use Rattle.line.proofs.number.above_zero.Goals as goal

pub returns : goal.returns
returns c = N.cast_is _ c.requires
