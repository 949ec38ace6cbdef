-- `line::write::write_moved` meets its contract. Assumes nothing.
use Rattle.std.proofs.Common.{◌≡◌, w64, to_z, of_z, rules}
use Rattle.line.proofs.write.write_moved.Goals as goal

pub returns : goal.returns
returns c =
    let datum-read : to_z w64 (of_z w64 c.args.r.datum) ≡ c.args.r.datum = search rules in
    let epoch-read : to_z w64 (of_z w64 c.args.r.epoch) ≡ c.args.r.epoch = search rules in
    let x-read : to_z w64 (of_z w64 c.args.p.x) ≡ c.args.p.x = search rules in
    let y-read : to_z w64 (of_z w64 c.args.p.y) ≡ c.args.p.y = search rules in
    let z-read : to_z w64 (of_z w64 c.args.p.z) ≡ c.args.p.z = search rules in
    rw (datum-read, epoch-read, x-read, y-read, z-read) at c.write_apart.ensures
