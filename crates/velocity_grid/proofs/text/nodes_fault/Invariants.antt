use Rattle.velocity_grid.proofs.Texts as T
use Rattle.velocity_grid.proofs.text.nodes_fault.Given as goal

abbrev pub invariant-loop-number : goal.invariant-loop-number
invariant-loop-number l = T.Going l.text l.start l.count l.from l.number
