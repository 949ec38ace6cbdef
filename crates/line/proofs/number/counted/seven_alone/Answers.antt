-- `line::number::counted::seven_alone` meets its contract. Assumes nothing.
use Rattle.std.proofs.Common.{◌≤◌, arith}
use Rattle.line.proofs.Words as W
use Rattle.line.proofs.Few as F
use Rattle.line.proofs.number.counted.seven_alone.Goals as goal

pub seven-v-requires : goal.seven-v-requires
seven-v-requires c = F.small (W.seven-and-tab c.word-d.ensures (c.other_seven.ensures c.if-other_seven.false))

pub returns : goal.returns
returns c =
    let d = c.word-d.ensures in
    let k = c.other_seven.ensures c.if-other_seven.false in
    let y = W.seven-and-tab d k in
    let p = c.requires in
    let l : 1000000 ≤ c.seven-v.result = omega arith in (
      record { inside = omega arith; ends = λ h. W.tab-last d k; digits = y.digits },
      rw c.seven-v.ensures (F.counted-least y (omega arith) (omega arith) (rw c.seven-v.ensures at l)),
    )
