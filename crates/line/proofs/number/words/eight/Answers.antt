-- `line::number::words::eight` meets its contract. Assumes nothing.
use Rattle.line.proofs.number.words.eight.Goals as goal

pub returns : goal.returns
returns c = rw c.fours-sums.ensures
