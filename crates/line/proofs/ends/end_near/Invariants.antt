use Rattle.std.proofs.Common.{◌≡◌, ◌+◌, ◌≤◌, length, drop, max}
use Rattle.line.specs.Lines.{first_length}
use Rattle.line.proofs.ends.end_near.Given as goal

abbrev pub invariant-loop-place : goal.invariant-loop-place
invariant-loop-place l = (l.place + first_length (drop l.place l.input) ≡ l.from + first_length (drop l.from l.input)) × (l.place ≤ max l.from (length l.input))
