use Rattle.std.proofs.Common.{◌-◌, length}
use Rattle.line.specs.Lines.{Onward}
use Rattle.line.proofs.ends.past_sixteens.Given as goal

abbrev pub invariant-loop-place : goal.invariant-loop-place
invariant-loop-place l = Onward l.input l.from l.place

abbrev pub decreases-loop-place : goal.decreases-loop-place
decreases-loop-place l = length l.input - l.place
