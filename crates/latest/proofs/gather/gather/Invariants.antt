use Prim.Native.Nat.{◌-◌}
use lib.ListN.{length}
use Rattle.latest.proofs.Gathering.{Gathering}
use Rattle.latest.proofs.gather.gather.Given as goal

abbrev pub invariant-loop-at : goal.invariant-loop-at
invariant-loop-at l = Gathering l.x l.initial.h l.initial.l l.initial.s l.initial.b l.h l.l l.s l.b l.count l.at l.stop

abbrev pub decreases-loop-at : goal.decreases-loop-at
decreases-loop-at l = length l.x - l.at
