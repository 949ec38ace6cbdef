-- `sheet_rules::decide::whole::fresh` meets its contract. Assumes nothing.
use Rattle.sheet_rules.proofs.Laws.{hold-fresh}
use Rattle.sheet_rules.proofs.decide.whole.fresh.Goals as goal

pub returns : goal.returns
returns c = hold-fresh
