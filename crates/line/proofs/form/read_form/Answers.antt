-- `line::form::read_form` meets its contract. Assumes nothing.
use Rattle.std.proofs.Common.{sym, ◌∙◌, arith, length-take-le}
use Rattle.std.proofs.lemmas.Result.{err_from_is_err_and}
use Rattle.line.specs.SecondLook.{shape_of}
use Rattle.line.proofs.Formed as F
use Rattle.line.proofs.Malformed.{fault-of-whole}
use Rattle.line.proofs.form.read_form.Goals as goal
use Rattle.line.proofs.form.read_form.Goals.{then-r-s+in_ok-fault_of, else-r-s}

pub returns-in_err-s : goal.returns-in_err-s
returns-in_err-s g c says told wrong =
    let p = err_from_is_err_and c.from_residual.result c.from_residual.ensures.1 in
    rw (p.1, p.2) (F.no-body c.args.line.now (shape_of c.args.mark) says c.in_err-s.field-0.0 c.in_err-s.ensures)

pub slice_bounds-fault_of-end : goal.slice_bounds-fault_of-end
slice_bounds-fault_of-end g c = sym (length-take-le _ _ (omega arith))

pub returns-in_err-fault_of : goal.returns-in_err-fault_of
returns-in_err-fault_of g c says told wrong =
    let p = err_from_is_err_and c.from_residual-in_err-fault_of.result c.from_residual-in_err-fault_of.ensures.1 in
    rw (p.1, p.2)
    (F.bad c.args.line.now (shape_of c.args.mark) says c.in_ok-s.s c.in_ok-s.ensures c.fields-r.result.record c.fields-r.result.next (told c.in_ok-s.s c.fields-r.result c.fields-r.ensures) c.if-r-s.true
    c.in_err-fault_of.field-0.0 (c.in_err-fault_of.ensures ∙ fault-of-whole (shape_of c.args.mark) c.args.line.now))

pub returns : goal.returns
returns g c says told wrong =
    let line = c.args.line.now in
    let shape = shape_of c.args.mark in
    let tells = told c.in_ok-s.s c.fields-r.result c.fields-r.ensures in
    elim c.if-r-s.branch [
      | then-r-s+in_ok-fault_of w ↦ absurd (F.found line shape says c.in_ok-s.s c.in_ok-s.ensures c.fields-r.result.record c.fields-r.result.next tells wrong w.if-r-s.true (w.in_ok-fault_of.ensures ∙ fault-of-whole shape line))
      | else-r-s w ↦ F.whole line shape says c.in_ok-s.s c.in_ok-s.ensures c.fields-r.result.record c.fields-r.result.next tells w.if-r-s.false
    ]
