-- `chain::steps::convert::join::join` meets its contract. Assumes nothing.
use Rattle.std.proofs.Common.{◌≡◌, Ok, Err, length, sym, ◌∙◌, ap}
use Rattle.std.proofs.lemmas.Result.{err_from_is_err_and}
use Rattle.refusal.proofs.Refusals.{not-none}
use Rattle.chain.proofs.Joins.{refused-is, accepted-is, few-together}
use Rattle.chain.proofs.steps.convert.join.join.Goals as goal

pub returns-in_err-join_fault : goal.returns-in_err-join_fault
returns-in_err-join_fault c =
    let s = c.args in
    let p = err_from_is_err_and c.from_residual.result c.from_residual.ensures.1 in
    let f = c.in_err-join_fault.ensures in
    rw (p.1, p.2) (ap Err f ∙ sym (refused-is s.first s.second (λ e. not-none _ (f ∙ e))))

pub joined-requires : goal.joined-requires
joined-requires c =
    let s = c.args in
    let long_first : length s.first.steps ≡ 8 = c.well_formed.0.1.1.0.1.0.1 in
    let long_second : length s.second.steps ≡ 8 = c.well_formed.1.0.1.1.0.1.0.1 in
    few-together s.first s.second long_first long_second (sym c.in_ok-join_fault.ensures)

pub returns : goal.returns
returns c =
    let s = c.args in
    ap Ok c.joined.ensures ∙ sym (accepted-is s.first s.second (sym c.in_ok-join_fault.ensures))
