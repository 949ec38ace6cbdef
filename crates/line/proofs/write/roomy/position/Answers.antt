-- `line::write::roomy::position` meets its contract. Assumes nothing.
use Rattle.std.proofs.Common.{◌≡◌, w64, to_z, of_z, rules}
use Rattle.line.proofs.Texts as T
use Rattle.line.proofs.write.roomy.position.Goals as goal

pub returns : goal.returns
returns c =
    let s = c in
    let e : to_z w64 (of_z w64 s.args.p.x) ≡ s.args.p.x = search rules in
    let f : to_z w64 (of_z w64 s.args.p.y) ≡ s.args.p.y = search rules in
    let g : to_z w64 (of_z w64 s.args.p.z) ≡ s.args.p.z = search rules in
    rw (e, f, g) at (T.after c.number-a.ensures c.two_numbers.ensures)
