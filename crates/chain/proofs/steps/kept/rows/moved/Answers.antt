-- `chain::steps::kept::rows::moved` meets its contract. Assumes nothing.
use Rattle.std.proofs.Common.{◌∙◌}
use Rattle.rounding.proofs.Machine.{told}
use Rattle.chain.specs.Prepared.{ready_at, row_at}
use Rattle.chain.proofs.Forms.{eight-lead}
use Rattle.chain.proofs.KeptRows.{first-number}
use Rattle.chain.proofs.steps.kept.rows.moved.Goals as goal

pub returns : goal.returns
unfolding row_at ready_at
returns c =
    let c2 = c.before.before in
    let c3 = c2.before in
    let c4 = c3.before in
    let c5 = c4.before in
    let c6 = c5.before in
    let c7 = c6.before in
    let c8 = c7.before in
    let s = c8 in
    c.moved_by.ensures
    ∙ eight-lead (first-number s.args.numbers.now s.args.index (told c8.moved_by-arg-1.given)) (told c7.moved_by-arg-2-1.given) (told c6.moved_by-arg-3-1.given) (told c5.moved_by-arg-4-1.given) (told c4.moved_by-arg-5-1.given) (told c3.moved_by-arg-6-1.given) (told c2.moved_by-arg-7-1.given) (told c.moved_by-arg-8-1.given) s.args.direction s.args.p
