-- `line::write::cut_point` meets its contract. Assumes nothing.
use Rattle.std.proofs.Common.{◌≡◌, w64, to_z, of_z, rules}
use Rattle.line.proofs.Moved as M
use Rattle.line.proofs.Texts as T
use Rattle.line.proofs.write.cut_point.Goals as goal

pub returns : goal.returns
returns c =
    let issue-read : to_z w64 (of_z w64 c.args.p.label.issue) ≡ c.args.p.label.issue = search rules in
    let order-read : to_z w64 (of_z w64 c.args.p.label.order) ≡ c.args.p.label.order = search rules in
    let p = c.args.p in
    T.says
    (T.«then» c.letter-a.ensures (T.«then» c.name-b.ensures (T.«then» c.whole-c.ensures (T.«then» c.whole-d.ensures c.cut_moved.ensures))))
    (rw (issue-read, order-read) (M.label-cut p.label p.realization p.position))

pub shape_of-out : goal.shape_of-out
shape_of-out c = T.same_size (returns c)
