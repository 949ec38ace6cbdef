-- `line::number::ahead` meets its contract. Assumes nothing.
use Rattle.std.proofs.Common.{arith}
use Rattle.line.proofs.Ahead as L
use Rattle.line.proofs.Few as F
use Rattle.line.proofs.number.ahead.Goals as goal

pub eight-requires : goal.eight-requires
eight-requires c = F.small (F.spelt c.word-d.ensures (c.other_eight.ensures c.if-not-other_eight.true))

pub returns-then-not-other_eight : goal.returns-then-not-other_eight
returns-then-not-other_eight c =
    let g = c.args in
    let y = F.spelt c.word-d.ensures (c.other_eight.ensures c.if-not-other_eight.true) in
    let v = F.says y (omega arith) in
    rw c.eight.ensures (L.carry 100000000 (L.unmoved g.s.now g.at g.first (omega arith)) v (omega (arith, v.less)))
