-- `chain::steps::kept::convert_prepared` meets its contract: a point arrives where its answer says. Assumes nothing.
use Rattle.std.proofs.Common.{Ok, ap, ◌∙◌}
use Rattle.chain.specs.PointRow.{convert_prepared}
use Rattle.chain.proofs.Arrivals.{arrived}
use Rattle.chain.proofs.KeptTurns.{prepared-keeps}
use Rattle.chain.proofs.steps.kept.convert_prepared.Goals as goal

pub returns : goal.returns
returns c =
    let x = c.args in
    let l = x.numbers.now in
    ap Ok c.moved_to.ensures ∙ arrived x.point (convert_prepared x.direction l x.point) c.in_ok-arrival.arrival (prepared-keeps x.direction l x.point) c.in_ok-arrival.ensures
