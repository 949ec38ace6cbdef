-- `line::write::roomy::epoch` meets its contract. Assumes nothing.
use Rattle.std.proofs.Common.{◌≡◌, arith, to_z-of_z, w64, to_z, of_z}
use Rattle.line.proofs.Texts as T
use Rattle.line.proofs.write.roomy.epoch.Goals as goal

pub returns-then-z-lt0 : goal.returns-then-z-lt0
returns-then-z-lt0 c =
    let z = c.args.z in
    let e : to_z w64 (of_z w64 z) ≡ z = to_z-of_z c.ranges.z in
    rw e at c.number.ensures

pub returns : goal.returns
returns c =
    let z = c.args.z in
    let e : to_z w64 (of_z w64 z) ≡ z = to_z-of_z c.ranges.z in
    T.named 22 c.mostly_seven.ensures (omega arith)
    (T.whole_above z _ _ (rw e at c.unsigned_abs.ensures.value) (rw e at c.if-z-lt0.false))
