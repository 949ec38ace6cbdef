use Rattle.std.proofs.Common.{◌≡◌, ◌-◌, ◌≤◌}
use Rattle.line.specs.Reading.{Run, scale_of}
use Rattle.line.proofs.name.eight.Given as goal

abbrev pub invariant-loop : goal.invariant-loop
invariant-loop l = (Run l.s l.at l.value (8 - l.counter) l.i) × (l.scale ≡ scale_of (8 - l.counter)) × (l.counter ≤ 8)
