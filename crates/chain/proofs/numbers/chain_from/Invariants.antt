use Rattle.chain.proofs.LentSteps.{Filled}
use Rattle.chain.proofs.numbers.chain_from.Given as goal

abbrev pub invariant-loop-i : goal.invariant-loop-i
invariant-loop-i l = Filled l.n l.steps l.i
