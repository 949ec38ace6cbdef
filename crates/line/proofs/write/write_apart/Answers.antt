-- `line::write::write_apart` meets its contract. Assumes nothing.
use Rattle.std.proofs.Common.{◌≡◌, w64, to_z, of_z, rules}
use Rattle.line.proofs.Texts as T
use Rattle.line.proofs.write.write_apart.Goals as goal

pub returns : goal.returns
returns c =
    let datum-read : to_z w64 (of_z w64 c.args.datum) ≡ c.args.datum = search rules in
    let epoch-read : to_z w64 (of_z w64 c.args.epoch) ≡ c.args.epoch = search rules in
    let x-read : to_z w64 (of_z w64 c.args.x) ≡ c.args.x = search rules in
    let y-read : to_z w64 (of_z w64 c.args.y) ≡ c.args.y = search rules in
    let z-read : to_z w64 (of_z w64 c.args.z) ≡ c.args.z = search rules in
    rw (datum-read, epoch-read, x-read, y-read, z-read) at (T.«then» c.cut_copy-a.ensures c.cut_moved.ensures)
