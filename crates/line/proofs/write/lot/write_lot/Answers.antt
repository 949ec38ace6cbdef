-- `line::write::lot::write_lot` meets its contract. Assumes nothing.
use Rattle.std.proofs.Common.{◌≡◌, w64, to_z, of_z, rules}
use Rattle.line.proofs.Texts as T
use Rattle.line.proofs.Lots.{lot-is}
use Rattle.line.proofs.write.lot.write_lot.Goals as goal

pub returns : goal.returns
returns c =
    let issue-read : to_z w64 (of_z w64 c.args.label.issue) ≡ c.args.label.issue = search rules in
    let order-read : to_z w64 (of_z w64 c.args.label.order) ≡ c.args.label.order = search rules in
    let easting-read : to_z w64 (of_z w64 c.args.e) ≡ c.args.e = search rules in
    let northing-read : to_z w64 (of_z w64 c.args.n) ≡ c.args.n = search rules in
    T.says
    (T.«then» c.letter-a.ensures
    (T.«then» c.name-b.ensures
    (T.«then» c.whole-c.ensures (T.«then» c.whole-d.ensures (T.«then» c.whole-f.ensures c.whole.ensures)))))
    (rw (issue-read, order-read, easting-read, northing-read) (lot-is c.args.label c.args.e c.args.n))
