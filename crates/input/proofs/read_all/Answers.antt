-- `input::read_all` meets its contract. Assumes nothing.
use native.Mathlib.Omega.{arith}
use Rattle.input.proofs.Laws.{on-more, reads_on, reads_whole, reads_same}
use Rattle.input.proofs.read_all.Goals as goal

pub returns-in-Break : goal.returns-in-Break
returns-in-Break g c = reads_same (omega (arith, c.one_read.auto.buffer)) (c.loop-answer.invariant.2 _ (reads_whole c.in-Break.is c.one_read.ensures))

pub loop-answer-smaller : goal.loop-answer-smaller
loop-answer-smaller g c = omega (arith, on-more c.loop-answer.invariant.0 c.in-Continue.is c.one_read.ensures, c.one_read.auto.buffer)

pub loop-answer-preserved : goal.loop-answer-preserved
loop-answer-preserved g c =
    let same = c.one_read.auto.buffer in
    let more = on-more c.loop-answer.invariant.0 c.in-Continue.is c.one_read.ensures in
    (omega (arith, more, same), omega (arith, same, c.loop-answer.invariant.1), λ a q. reads_same (omega (arith, same)) (c.loop-answer.invariant.2 a (reads_on c.in-Continue.is c.one_read.ensures (reads_same (omega (arith, same)) q))))
