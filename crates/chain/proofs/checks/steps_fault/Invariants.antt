use mathlib.Core.Path.{◌≡◌}
use lib.ListN.{take, drop}
use Rattle.refusal.specs.Order.{first}
use Rattle.chain.specs.Faults.{later_tests, steps_tests}
use Rattle.chain.proofs.checks.steps_fault.Given as goal

-- what is left to examine from index i on decides what the whole does
abbrev pub invariant-loop-i : goal.invariant-loop-i
invariant-loop-i l = first (later_tests l.chain.profile l.previous (drop l.i (take l.n l.chain.steps))) ≡ first (steps_tests l.chain.profile (take l.n l.chain.steps))
