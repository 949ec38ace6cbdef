use Rattle.line.proofs.SecondLook as L
use Rattle.line.proofs.second_look.after.Given as goal

abbrev pub invariant-loop-i : goal.invariant-loop-i
invariant-loop-i l = L.Begun l.s l.at l.i
