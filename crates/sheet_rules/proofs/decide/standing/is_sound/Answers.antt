-- `sheet_rules::decide::standing::is_sound` meets its contract. Assumes nothing.
use mathlib.Core.Path.{sym, ◌∙◌}
use Rattle.sheet_rules.proofs.Answers.{good-fault}
use Rattle.sheet_rules.proofs.OneLine.{sound-told}
use Rattle.sheet_rules.proofs.decide.standing.is_sound.Goals as goal

pub returns : goal.returns
returns c = sym (sound-told c.args.standing _ _ c.is_counted.ensures (c.is_ok.ensures.value ∙ good-fault _ c.chain_fault.ensures))
