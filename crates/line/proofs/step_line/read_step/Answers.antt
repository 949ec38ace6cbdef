-- `line::step_line::read_step` meets its contract. Assumes nothing.
use Rattle.std.proofs.Common.{sym, ap, ◌∙◌, arith, length-take-le, to_z-of_z}
use Rattle.std.proofs.lemmas.Result.{err_from_is_err_and}
use borrow.Author.Tests.{eqb-false}
use Rattle.chain.specs.Faults.{step_fault}
use Rattle.line.specs.Answers.{Good, Malformed, Refused}
use Rattle.line.specs.Fields.{said}
use Rattle.line.specs.Forms.{step_form}
use Rattle.line.specs.Malformed.{step_shape, fault_of}
use Rattle.line.specs.Readers.{read_as, read_step}
use Rattle.line.specs.Reading.{capped_step}
use Rattle.line.proofs.Faults.{careful-step}
use Rattle.line.proofs.Formed as F
use Rattle.line.proofs.GoodForm.{step-exactly, step-uncounted}
use Rattle.line.proofs.Malformed.{body-length, fault-of-whole}
use Rattle.line.proofs.step_line.read_step.Goals as goal

pub returns-in_err-s : goal.returns-in_err-s
unfolding read_step
returns-in_err-s c =
    let line = c.args.line.now in
    let p = err_from_is_err_and c.from_residual.result c.from_residual.ensures.1 in
    rw (p.1, p.2, F.bodied-none line _ c.in_err-s.ensures) (ap Malformed (F.too_long line _ step_shape c.in_err-s.ensures))

-- a line that has a body is not too long
pub is_counted-requires : goal.is_counted-requires
is_counted-requires c = omega (arith, body-length c.args.line.now _ (F.bodied-some c.args.line.now _ c.in_ok-s.ensures))

pub slice_bounds-fault_of-end : goal.slice_bounds-fault_of-end
slice_bounds-fault_of-end c = sym (length-take-le _ _ (omega arith))

pub returns-in_err-fault_of : goal.returns-in_err-fault_of
unfolding read_step
returns-in_err-fault_of c =
    let line = c.args.line.now in
    let y = c.args.profile in
    let p = err_from_is_err_and c.from_residual-in_err-fault_of.result c.from_residual-in_err-fault_of.ensures.1 in
    let unsaid = step-uncounted line _ (F.bodied-some line _ c.in_ok-s.ensures) (eqb-false _ _ (sym c.is_counted.ensures ∙ c.if-not-is_counted.true)) in
    rw (p.1, p.2) (ap Malformed (c.in_err-fault_of.ensures ∙ fault-of-whole step_shape line) ∙ ap (read_as (step_fault y) Good Refused (Malformed (fault_of step_shape line))) (sym unsaid))

pub returns-in_err-step : goal.returns-in_err-step
unfolding read_step
returns-in_err-step c =
    let line = c.args.line.now in
    let y = c.args.profile in
    let p = err_from_is_err_and c.from_residual-in_err-step.result c.from_residual-in_err-step.ensures.1 in
    rw (p.1, p.2) (F.malformed (step_fault y) (careful-step y) _ (said step_form line) _ (F.read step_form capped_step line _ _ (step-exactly line) c.in_err-step.ensures))

pub returns-in_err-step_fault : goal.returns-in_err-step_fault
unfolding read_step
returns-in_err-step_fault c =
    let line = c.args.line.now in
    let y = c.args.profile in
    let p = err_from_is_err_and c.from_residual-in_err-step_fault.result c.from_residual-in_err-step_fault.ensures.1 in
    rw (p.1, p.2)
    (F.refused (step_fault y) (careful-step y) _ (said step_form line) _ (F.read step_form capped_step line _ _ (step-exactly line) c.in_ok-step.ensures)
    c.in_err-step_fault.field-0.0 (rw (to_z-of_z c.ranges.profile) at c.in_err-step_fault.ensures))

pub returns : goal.returns
unfolding read_step
returns c =
    let line = c.args.line.now in
    let y = c.args.profile in
    F.good (step_fault y) (careful-step y) _ (said step_form line) _ (F.read step_form capped_step line _ _ (step-exactly line) c.in_ok-step.ensures)
    (rw (to_z-of_z c.ranges.profile) at c.in_ok-step_fault.ensures)
