-- `line::number::counted::of_last_eleven` meets its contract. Assumes nothing.
use Rattle.std.proofs.Common.{◌≡◌, arith, w64, to_z, of_z, rules}
use Rattle.line.proofs.Counted as K
use Rattle.line.proofs.number.counted.of_last_eleven.Goals as goal

pub returns-in-Some : goal.returns-in-Some
returns-in-Some c =
    let y = c.in-Some.ensures in
    let z = c.above_zero.result in
    let e : to_z w64 (of_z w64 z) ≡ z = search rules in
    let r = c.reaches.ensures c.if-reaches.true in
    rw (e, c.above_zero.ensures)
    (K.counted 11 100000000000 _ y (record { inside = omega arith; ends = λ h. absurd (omega arith); digits = y.digits }) (omega arith) (omega arith)
    (omega arith))
