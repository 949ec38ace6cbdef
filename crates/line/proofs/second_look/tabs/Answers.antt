-- `line::second_look::tabs` meets its contract. Assumes nothing.
use Rattle.std.proofs.Common.{arith}
use Rattle.line.proofs.Tabs as T
use Rattle.line.proofs.second_look.tabs.Goals as goal
use Rattle.line.proofs.second_look.tabs.Goals.{then-b-eq-TAB, else-b-eq-TAB}

pub loop-b-init : goal.loop-b-init
loop-b-init c = T.counting c.args.s.now

pub loop-b-preserved : goal.loop-b-preserved
loop-b-preserved c =
    let k = c.loop-b in
    elim c.if-b-eq-TAB.branch [
      | then-b-eq-TAB w ↦ rw w.count-is (T.counting-tab k.invariant (omega arith) w.if-b-eq-TAB.true)
      | else-b-eq-TAB w ↦ rw w.count-is (T.counting-byte k.invariant (omega arith) w.if-b-eq-TAB.false)
    ]

pub returns : goal.returns
returns c = T.tabs-counted c.loop-b.invariant (omega arith)
