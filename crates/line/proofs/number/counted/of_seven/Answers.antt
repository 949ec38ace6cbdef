-- `line::number::counted::of_seven` meets its contract. Assumes nothing.
use Rattle.std.proofs.Common.{◌≡◌, arith, w64, to_z, of_z, rules}
use Rattle.line.proofs.Counted as K
use Rattle.line.proofs.number.counted.of_seven.Goals as goal

pub returns-in-Some : goal.returns-in-Some
returns-in-Some c =
    let a = c.in-Some.ensures in
    let z = c.above_zero.result in
    let e : to_z w64 (of_z w64 z) ≡ z = search rules in
    rw (e, c.above_zero.ensures) (K.counted 7 10000000 _ a.1 a.0 (omega arith) (omega arith) (omega arith))
