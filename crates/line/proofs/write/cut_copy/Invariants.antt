use Rattle.std.proofs.Common.{◌≤◌, length, take}
use Rattle.line.specs.Text.{Wrote}
use Rattle.line.proofs.write.cut_copy.Given as goal

abbrev pub invariant-loop-b : goal.invariant-loop-b
invariant-loop-b l = (l.b-index ≤ length l.b-items) × Wrote l.initial.out l.at (take l.b-index l.b-items) l.out l.p
