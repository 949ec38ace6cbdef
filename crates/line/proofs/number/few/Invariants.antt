use Rattle.std.proofs.Common.{◌+◌, ◌^◌, ◌<◌, ◌≤◌}
use Rattle.line.specs.Reading.{Onto}
use Rattle.line.proofs.number.few.Given as goal

abbrev pub invariant-loop : goal.invariant-loop
invariant-loop l = (l.counter ≤ 4) × (l.a < 10 ^ (9 + l.counter)) × Onto l.s l.at l.first l.i l.a
