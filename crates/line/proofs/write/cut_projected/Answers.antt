-- `line::write::cut_projected` meets its contract. Assumes nothing.
use Rattle.std.proofs.Common.{◌≡◌, to_z-of_z, w64, to_z, of_z}
use Rattle.line.proofs.Texts as T
use Rattle.line.proofs.write.cut_projected.Goals as goal

pub returns : goal.returns
returns c =
    let g = c.args in
    let a : to_z w64 (of_z w64 g.e) ≡ g.e = to_z-of_z c.ranges.e in
    let b : to_z w64 (of_z w64 g.n) ≡ g.n = to_z-of_z c.ranges.n in
    T.says (T.«then» c.letter-a.ensures (T.«then» c.name-b.ensures (T.«then» c.whole-c.ensures c.whole.ensures))) (rw (a, b) (T.projected-is _ _ _))
