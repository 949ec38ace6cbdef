-- `chain::steps::convert::lent::forward_by` meets its contract: a point arrives where its answer says. Assumes nothing.
use Rattle.std.proofs.Common.{ap, ◌∙◌}
use lib.IntN.{ℤ}
use Rattle.std.specs.Prelude.{Ok}
use Rattle.rounding.proofs.Machine.{rd}
use Rattle.std.proofs.lemmas.Result.{err_from_is_err_and}
use Rattle.chain.specs.declared.Direction.TheVariants.{Forward}
use Rattle.chain.specs.Convert.{arrival_of, forward_of}
use Rattle.chain.specs.Numbers.{chain_from}
use Rattle.chain.specs.PointRow.{convert_of}
use Rattle.chain.proofs.Accepted.{arrival-refused}
use Rattle.chain.proofs.Arrivals.{arrived}
use Rattle.chain.proofs.Answering.{convert-keeps}
use Rattle.chain.proofs.steps.convert.lent.forward_by.Goals as goal

pub returns-in_err-arrival : goal.returns-in_err-arrival
unfolding convert_of
returns-in_err-arrival c =
    let s = c.args in
    let p = err_from_is_err_and c.from_residual.result c.from_residual.ensures.1 in
    rw (p.1, p.2) (arrival-refused (forward_of (chain_from s.profile s.steps.now) s.point) (c.in_err-arrival.ensures ∙ ap (λ (y : ℤ). arrival_of (forward_of (chain_from y s.steps.now) s.point)) (rd c.ranges.profile)))

pub returns : goal.returns
unfolding convert_of
returns c =
    let s = c.args in
    ap Ok c.moved_to.ensures ∙ arrived s.point (forward_of (chain_from s.profile s.steps.now) s.point) c.in_ok-arrival.arrival (convert-keeps (chain_from s.profile s.steps.now) Forward s.point) (c.in_ok-arrival.ensures ∙ ap (λ (y : ℤ). arrival_of (forward_of (chain_from y s.steps.now) s.point)) (rd c.ranges.profile))
