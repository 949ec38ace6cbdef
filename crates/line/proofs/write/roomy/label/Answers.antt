-- `line::write::roomy::label` meets its contract. Assumes nothing.
use Rattle.std.proofs.Common.{◌≡◌, w64, to_z, of_z, rules}
use Rattle.line.proofs.Texts as T
use Rattle.line.proofs.write.roomy.label.Goals as goal

pub returns : goal.returns
returns c =
    let s = c in
    let e : to_z w64 (of_z w64 s.args.l.issue) ≡ s.args.l.issue = search rules in
    let f : to_z w64 (of_z w64 s.args.l.order) ≡ s.args.l.order = search rules in
    rw (e, f) at (T.after c.name-a.ensures c.two_numbers.ensures)
