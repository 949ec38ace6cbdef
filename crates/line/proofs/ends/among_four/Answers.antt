-- `line::ends::among_four` meets its contract. Assumes nothing.
use Rattle.line.proofs.Lines.{one, either}
use Rattle.line.proofs.ends.among_four.Goals as goal

pub returns : goal.returns
returns c = let s = c in either 3 1 (either 2 1 (either 1 1 (one s.args.input.now s.args.at) (one _ _)) (one _ _)) (one _ _)
