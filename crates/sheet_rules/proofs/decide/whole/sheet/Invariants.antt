use Prim.Native.Nat.{◌-◌}
use lib.ListN.{length}
use Rattle.listing.proofs.Loop.{Midway}
use Rattle.sheet_rules.specs.Sheet.{Sheet, fresh, rules}
use Rattle.sheet_rules.specs.State.{Holds}
use Rattle.sheet_rules.proofs.decide.whole.sheet.Given as goal

abbrev pub invariant-loop-from : goal.invariant-loop-from
invariant-loop-from l = Midway rules (λ (s : Sheet). s.line) fresh l.input l.initial.out (Holds l.state l.numbers) l.out l.at l.from

abbrev pub decreases-loop-from : goal.decreases-loop-from
decreases-loop-from l = length l.input - l.from
