use Rattle.std.proofs.Common.{ℕ, ◌-◌, length}
use Rattle.line.specs.Reading.{Long}
use Rattle.line.proofs.number.rest.Given as goal

abbrev pub invariant-loop-i : goal.invariant-loop-i
invariant-loop-i l = (next : ℕ) → Long l.s l.i next → Long l.s l.at next

abbrev pub decreases-loop-i : goal.decreases-loop-i
decreases-loop-i l = length l.s - l.i
