-- `line::write::roomy::sign` meets its contract. Assumes nothing.
use Rattle.std.proofs.Common.{◌≡◌, sym, arith, to_z-of_z, w64, to_z, of_z}
use Rattle.line.proofs.Texts as T
use Rattle.line.proofs.write.roomy.sign.Goals as goal

pub returns-then-z-lt0 : goal.returns-then-z-lt0
returns-then-z-lt0 c =
    let z = c.args.z in
    let e : to_z w64 (of_z w64 z) ≡ z = to_z-of_z c.ranges.z in
    T.named 1 c.put.ensures (omega arith) (sym (T.sign_below z (rw e at c.if-z-lt0.true)))

pub returns-else-z-lt0 : goal.returns-else-z-lt0
returns-else-z-lt0 c =
    let z = c.args.z in
    let e : to_z w64 (of_z w64 z) ≡ z = to_z-of_z c.ranges.z in
    T.unmoved _ _ (T.sign_above z (rw e at c.if-z-lt0.false))
