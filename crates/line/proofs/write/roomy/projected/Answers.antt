-- `line::write::roomy::projected` meets its contract. Assumes nothing.
use Rattle.std.proofs.Common.{◌≡◌, arith, to_z-of_z, w64, to_z, of_z}
use Rattle.line.proofs.Texts as T
use Rattle.line.proofs.write.roomy.projected.Goals as goal

pub returns : goal.returns
returns c =
    let e : to_z w64 (of_z w64 c.args.e) ≡ c.args.e = to_z-of_z c.ranges.e in
    let f : to_z w64 (of_z w64 c.args.n) ≡ c.args.n = to_z-of_z c.ranges.n in
    T.named 63 (T.after c.letter-a.ensures (T.after c.name-b.ensures c.two_numbers.ensures)) (omega arith) (rw (e, f) (T.projected-is _ _ _))
