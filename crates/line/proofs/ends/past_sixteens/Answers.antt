-- `line::ends::past_sixteens` meets its contract. Assumes nothing.
use Rattle.std.proofs.Common.{arith}
use Rattle.line.proofs.Lines.{skip}
use Rattle.line.proofs.ends.past_sixteens.Goals as goal

pub loop-place-preserved : goal.loop-place-preserved
loop-place-preserved c = let k = c.loop-place in skip 16 _ _ _ k.invariant (omega arith) (c.among_sixteen.ensures c.if-not-among_sixteen.true)
