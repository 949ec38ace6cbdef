-- `line::write::cut_moved` meets its contract. Assumes nothing.
use Rattle.std.proofs.Common.{◌≡◌, w64, to_z, of_z, rules}
use Rattle.line.proofs.Moved as M
use Rattle.line.proofs.Texts as T
use Rattle.line.proofs.write.cut_moved.Goals as goal

pub returns : goal.returns
returns c =
    let datum-read : to_z w64 (of_z w64 c.args.r.datum) ≡ c.args.r.datum = search rules in
    let epoch-read : to_z w64 (of_z w64 c.args.r.epoch) ≡ c.args.r.epoch = search rules in
    let x-read : to_z w64 (of_z w64 c.args.p.x) ≡ c.args.p.x = search rules in
    let y-read : to_z w64 (of_z w64 c.args.p.y) ≡ c.args.p.y = search rules in
    let z-read : to_z w64 (of_z w64 c.args.p.z) ≡ c.args.p.z = search rules in
    T.says
    (T.«then» c.whole-a.ensures (T.«then» c.whole-b.ensures (T.«then» c.whole-c.ensures (T.«then» c.whole-d.ensures c.whole.ensures))))
    (rw (datum-read, epoch-read, x-read, y-read, z-read) (M.moved-is c.args.r c.args.p))

pub shape_of-out : goal.shape_of-out
shape_of-out c = T.same_size (returns c)
