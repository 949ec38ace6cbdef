-- `line::number::counted::twelve` meets its contract. Assumes nothing.
use Rattle.std.proofs.Common.{◌≤◌, arith}
use Rattle.line.proofs.Ahead as L
use Rattle.line.proofs.Few as F
use Rattle.line.proofs.number.counted.twelve.Goals as goal

pub eight-v-requires : goal.eight-v-requires
eight-v-requires c =
    let a = c.other_eight in
    let b = c.other_eight-2 in
    F.small (F.spelt c.word-d.ensures (a.ensures (L.or_left a.result b.result c.if-other_eight.false)))

pub last_four-requires : goal.last_four-requires
last_four-requires c =
    let a = c.other_eight in
    let b = c.other_eight-2 in
    F.small (F.spelt c.word-e.ensures (b.ensures (L.or_right a.result b.result c.if-other_eight.false)))

pub returns : goal.returns
returns c =
    let a = c.other_eight in
    let b = c.other_eight-2 in
    let y = F.spelt c.word-d.ensures (a.ensures (L.or_left a.result b.result c.if-other_eight.false)) in
    let z = F.spelt c.word-e.ensures (b.ensures (L.or_right a.result b.result c.if-other_eight.false)) in
    let v = c.eight-v in
    let p = c.requires in
    let l : 10000000 ≤ v.result = omega arith in
    let k = F.counted-least y (omega arith) (omega arith) (rw v.ensures at l) in
    rw (v.ensures, c.last_four.ensures) (F.longer 8 100000000 k z (omega arith) (omega arith))
