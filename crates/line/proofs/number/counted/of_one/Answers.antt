-- `line::number::counted::of_one` meets its contract. Assumes nothing.
use Rattle.std.proofs.Common.{◌≡◌, w64, to_z, of_z, rules}
use Rattle.line.proofs.Counted as K
use Rattle.line.proofs.number.counted.of_one.Goals as goal

pub returns-then-one_alone : goal.returns-then-one_alone
returns-then-one_alone c =
    let a = c.one_alone.ensures c.if-one_alone.true in
    let z = c.above_zero.result in
    let e : to_z w64 (of_z w64 z) ≡ z = search rules in
    rw (e, c.above_zero.ensures, c.wide.ensures.0) (K.one-digit a c.closed.ensures)
