use Prim.Native.Nat.{◌-◌}
use lib.ListN.{length}
use Rattle.listing.proofs.Loop.{Midway}
use Rattle.plan_rules.specs.Plan.{Plan, fresh, rules}
use Rattle.plan_rules.specs.State.{Holds}
use Rattle.plan_rules.proofs.decide.whole.plan.Given as goal

abbrev pub invariant-loop-from : goal.invariant-loop-from
invariant-loop-from l = Midway rules (λ (p : Plan). p.line) fresh l.input l.initial.out (Holds l.state) l.out l.at l.from

abbrev pub decreases-loop-from : goal.decreases-loop-from
decreases-loop-from l = length l.input - l.from
