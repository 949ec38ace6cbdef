use Rattle.std.proofs.Common.{◌+◌, ◌-◌, length}
use Rattle.line.specs.SecondLook.{classes_of}
use Rattle.line.proofs.SecondLook as L
use Rattle.line.proofs.second_look.look.Given as goal

abbrev pub invariant-loop-at : goal.invariant-loop-at
invariant-loop-at l = L.Looking l.s (classes_of l.first l.kind) l.id l.plain l.count l.at

abbrev pub decreases-loop-at : goal.decreases-loop-at
decreases-loop-at l = length l.s + 1 - l.at
