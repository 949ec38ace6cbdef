use Rattle.std.proofs.Common.{◌+◌, ◌≤◌}
use Rattle.line.specs.Lines.{Onward}
use Rattle.line.proofs.ends.end_in_sixteen.Given as goal

abbrev pub invariant-loop-clear : goal.invariant-loop-clear
invariant-loop-clear l = (l.clear ≤ 16) × Onward l.input l.from (l.from + l.clear)
