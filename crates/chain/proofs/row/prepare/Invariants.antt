use mathlib.Core.Path.{◌≡◌}
use lib.ListN.{take, drop}
use Rattle.chain.specs.Faults.{steps_of}
use Rattle.chain.specs.Prepared.{Holds}
use Rattle.chain.specs.PointRow.{no_numbers, extended_all}
use Rattle.chain.proofs.row.prepare.Given as goal

-- the numbers hold the first i steps, and the others put to them give what all give
abbrev pub invariant-loop-i : goal.invariant-loop-i
invariant-loop-i l =
    Holds l.chain.profile l.numbers (take l.i l.chain.steps)
    × (extended_all l.chain.profile l.numbers (drop l.i (steps_of l.chain)) ≡ extended_all l.chain.profile no_numbers (steps_of l.chain))
