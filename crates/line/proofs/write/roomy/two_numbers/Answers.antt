-- `line::write::roomy::two_numbers` meets its contract. Assumes nothing.
use Rattle.std.proofs.Common.{◌≡◌, to_z-of_z, w64, to_z, of_z}
use Rattle.line.proofs.Texts as T
use Rattle.line.proofs.write.roomy.two_numbers.Goals as goal

pub returns : goal.returns
returns c =
    let e : to_z w64 (of_z w64 c.args.y) ≡ c.args.y = to_z-of_z c.ranges.y in
    let f : to_z w64 (of_z w64 c.args.z) ≡ c.args.z = to_z-of_z c.ranges.z in
    rw (e, f) at (T.after c.number-a.ensures c.number.ensures)
