-- `line::number::counted::of_minus_twelve` meets its contract. Assumes nothing.
use Rattle.std.proofs.Common.{◌≡◌, arith, w64, to_z, of_z, rules}
use Rattle.line.proofs.Counted as K
use Rattle.line.proofs.number.counted.of_minus_twelve.Goals as goal

pub returns-in-Some : goal.returns-in-Some
returns-in-Some c =
    let y = c.in-Some.ensures in
    let z = c.below_zero.result in
    let e : to_z w64 (of_z w64 z) ≡ z = search rules in
    let r = c.reaches.ensures c.if-reaches.true in
    rw (e, c.below_zero.ensures)
    (K.minus-counted 12 1000000000000 _ (omega arith) c.if-s-at-eq-MINUS.true y (K.tabbed (omega arith) c.if-s-at-eq-TAB.true (omega arith) y)
    (omega arith) (omega arith) (omega arith))
