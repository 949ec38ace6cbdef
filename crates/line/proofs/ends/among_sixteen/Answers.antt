-- `line::ends::among_sixteen` meets its contract. Assumes nothing.
use Rattle.line.proofs.Lines.{either}
use Rattle.line.proofs.ends.among_sixteen.Goals as goal

pub returns : goal.returns
returns c = either 12 4 (either 8 4 (either 4 4 c.among_four.ensures c.among_four-2.ensures) c.among_four-3.ensures) c.among_four-4.ensures
