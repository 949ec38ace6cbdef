-- `sheet_rules::decide::standing::is_counted` meets its contract. By the definition. Assumes nothing.
use mathlib.Core.Path.{refl}
use Rattle.sheet_rules.specs.OneLine.{counted}
use Rattle.sheet_rules.proofs.decide.standing.is_counted.Goals as goal

pub returns : goal.returns
unfolding counted
returns c = refl
