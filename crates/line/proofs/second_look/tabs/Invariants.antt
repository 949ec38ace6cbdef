use Rattle.line.proofs.Tabs as T
use Rattle.line.proofs.second_look.tabs.Given as goal

abbrev pub invariant-loop-b : goal.invariant-loop-b
invariant-loop-b l = T.Counting l.s l.count l.b-index
