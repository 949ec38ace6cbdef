-- `line::origin_line::read_origin` meets its contract. Assumes nothing.
use Rattle.std.proofs.lemmas.Result.{err_from_is_err_and}
use Rattle.angle.specs.Ranges.{origin_fault}
use Rattle.line.specs.Fields.{said}
use Rattle.line.specs.Forms.{origin_form}
use Rattle.line.specs.Readers.{read_origin}
use Rattle.line.specs.Reading.{capped_origin}
use Rattle.line.proofs.Faults.{careful-origin}
use Rattle.line.proofs.Formed as F
use Rattle.line.proofs.GoodForm.{origin-exactly}
use Rattle.line.proofs.origin_line.read_origin.Goals as goal

pub returns-in_err-origin : goal.returns-in_err-origin
unfolding read_origin
returns-in_err-origin c =
    let line = c.args.line.now in
    let p = err_from_is_err_and c.from_residual.result c.from_residual.ensures.1 in
    rw (p.1, p.2) (F.malformed origin_fault careful-origin _ (said origin_form line) _ (F.read origin_form capped_origin line _ _ (origin-exactly line) c.in_err-origin.ensures))

pub returns-in_err-origin_fault : goal.returns-in_err-origin_fault
unfolding read_origin
returns-in_err-origin_fault c =
    let line = c.args.line.now in
    let p = err_from_is_err_and c.from_residual-in_err-origin_fault.result c.from_residual-in_err-origin_fault.ensures.1 in
    rw (p.1, p.2)
    (F.refused origin_fault careful-origin _ (said origin_form line) _ (F.read origin_form capped_origin line _ _ (origin-exactly line) c.in_ok-origin.ensures)
    c.in_err-origin_fault.field-0.0 c.in_err-origin_fault.ensures)

pub returns : goal.returns
unfolding read_origin
returns c =
    let line = c.args.line.now in
    F.good origin_fault careful-origin _ (said origin_form line) _ (F.read origin_form capped_origin line _ _ (origin-exactly line) c.in_ok-origin.ensures)
    c.in_ok-origin_fault.ensures
