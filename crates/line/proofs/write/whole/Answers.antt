-- `line::write::whole` meets its contract. Assumes nothing.
use Rattle.std.proofs.Common.{◌≡◌, to_z-of_z, w64, to_z, of_z}
use Rattle.line.proofs.Texts as T
use Rattle.line.proofs.write.whole.Goals as goal

pub returns-then-z-lt0 : goal.returns-then-z-lt0
returns-then-z-lt0 c =
    let z = c.args.z in
    let e : to_z w64 (of_z w64 z) ≡ z = to_z-of_z c.ranges.z in
    T.says (T.«then» c.byte-a.ensures (T.«then» c.natural-b.ensures c.byte.ensures)) (T.whole_below z _ _ (rw e at c.unsigned_abs-n.ensures.value) (rw e at c.if-z-lt0.true))

pub returns-else-z-lt0 : goal.returns-else-z-lt0
returns-else-z-lt0 c =
    let z = c.args.z in
    let e : to_z w64 (of_z w64 z) ≡ z = to_z-of_z c.ranges.z in
    T.says (T.«then» c.natural-b-else-z-lt0.ensures c.byte-else-z-lt0.ensures) (T.whole_above z _ _ (rw e at c.unsigned_abs-n.ensures.value) (rw e at c.if-z-lt0.false))
