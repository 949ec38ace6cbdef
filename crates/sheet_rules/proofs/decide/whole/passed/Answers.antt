-- `sheet_rules::decide::whole::passed` meets its contract. Assumes nothing.
use borrow.Author.Rules.{rules}
use Rattle.sheet_rules.specs.State.{passed_in}
use Rattle.sheet_rules.proofs.decide.whole.passed.Goals as goal

pub returns : goal.returns
unfolding passed_in
returns c = search rules
