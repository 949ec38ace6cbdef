-- `line::write::roomy::number` meets its contract. Assumes nothing.
use Rattle.std.proofs.Common.{◌≡◌, arith, to_z-of_z, w64, to_z, of_z}
use Rattle.line.proofs.Texts as T
use Rattle.line.proofs.write.roomy.number.Goals as goal

pub returns : goal.returns
returns c =
    let z = c.args.z in
    let e : to_z w64 (of_z w64 z) ≡ z = to_z-of_z c.ranges.z in
    T.named 22 (T.after (rw e at c.sign-a.ensures) (T.after c.mostly_one-b.ensures c.put.ensures)) (omega arith) (T.sign-then-digits z _ _ (rw e at c.unsigned_abs.ensures.value))
