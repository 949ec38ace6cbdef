-- `capi::projected::give_metres` meets its contract: a refusal writes nothing. Assumes nothing.
use mathlib.Core.Path.{◌∙◌, ap}
use Rattle.std.specs.Prelude.{Result}
use Rattle.refusal.specs.Refusals.{told}
use Rattle.refusal.specs.declared.Refusal.{Refusal}
use Rattle.angle.specs.declared.Projected.{Projected}
use Rattle.rounding.proofs.Machine.{told as read}
use Rattle.capi.specs.Calls.{of_projected}
use Rattle.capi.proofs.Laws.{by, declined}
use Rattle.capi.proofs.projected.give_metres.Goals as goal

pub returns-in-Err : goal.returns-in-Err
returns-in-Err c = declined (ap (λ (r : Result Projected Refusal). of_projected (told r)) c.in-Err.is) (read c.status.type_inv ∙ c.status.ensures)

pub returns-in-Ok : goal.returns-in-Ok
returns-in-Ok c = by c.give.ensures (ap (λ (r : Result Projected Refusal). of_projected (told r)) c.in-Ok.is) (read c.give.type_inv)
