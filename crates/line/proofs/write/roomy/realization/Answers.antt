-- `line::write::roomy::realization` meets its contract. Assumes nothing.
use Rattle.std.proofs.Common.{◌≡◌, w64, to_z, of_z, rules}
use Rattle.line.proofs.Texts as T
use Rattle.line.proofs.write.roomy.realization.Goals as goal

pub returns : goal.returns
returns c =
    let s = c in
    let e : to_z w64 (of_z w64 s.args.r.datum) ≡ s.args.r.datum = search rules in
    let f : to_z w64 (of_z w64 s.args.r.epoch) ≡ s.args.r.epoch = search rules in
    rw (e, f) at (T.after c.number-a.ensures c.epoch.ensures)
