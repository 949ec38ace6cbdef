use Prim.Native.Nat.{◌-◌}
use lib.ListN.{length}
use Rattle.latest.proofs.Printing.{Printing}
use Rattle.latest.proofs.print.print.Given as goal

abbrev pub invariant-loop-from : goal.invariant-loop-from
invariant-loop-from l = Printing l.x l.v l.stop l.initial.out l.out l.at l.from l.number l.row

abbrev pub decreases-loop-from : goal.decreases-loop-from
decreases-loop-from l = length l.x - l.from
