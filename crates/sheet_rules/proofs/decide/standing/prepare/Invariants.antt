use lib.ListN.{take}
use Rattle.chain.specs.Prepared as prepared
use Rattle.sheet_rules.proofs.decide.standing.prepare.Given as goal

abbrev pub invariant-loop-step : goal.invariant-loop-step
invariant-loop-step l = prepared.Holds l.fn.chain.profile l.numbers (take l.step-index l.fn.chain.steps)
