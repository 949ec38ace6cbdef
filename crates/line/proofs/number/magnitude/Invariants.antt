use Rattle.std.proofs.Common.{ℕ, ◌-◌, ◌≤◌, length}
use Rattle.line.specs.Number.{digits}
use Rattle.line.specs.Reading.{Got, capped}
use Rattle.line.proofs.number.magnitude.Given as goal

abbrev pub invariant-loop-i : goal.invariant-loop-i
invariant-loop-i l = (l.a ≤ 1000000000000000000) × ((v next : ℕ) → Got l.s capped (digits l.a) l.i v next → Got l.s capped (digits l.first) l.at v next)

abbrev pub decreases-loop-i : goal.decreases-loop-i
decreases-loop-i l = length l.s - l.i
