-- `capi::conversion::give_point` meets its contract: a refusal writes nothing. Assumes nothing.
use mathlib.Core.Path.{sym, ◌∙◌, ap}
use Rattle.std.specs.Prelude.{Result}
use Rattle.refusal.specs.Refusals.{told}
use Rattle.refusal.specs.declared.Refusal.{Refusal}
use Rattle.chain.specs.declared.Point.{Point}
use Rattle.rounding.proofs.Machine.{told as read}
use Rattle.capi.specs.Outcome.{gives}
use Rattle.capi.specs.Calls.{of_answer}
use Rattle.capi.proofs.Laws.{by, declined}
use Rattle.capi.proofs.conversion.give_point.Goals as goal

pub returns-in-Err : goal.returns-in-Err
returns-in-Err c = declined (ap (λ (r : Result Point Refusal). of_answer (told r)) c.in-Err.is) (read c.status.type_inv ∙ c.status.ensures)

pub returns-in-Ok : goal.returns-in-Ok
returns-in-Ok c = by c.give.ensures (ap (λ (r : Result Point Refusal). of_answer (told r)) c.in-Ok.is ∙ ap gives (sym c.point_numbers.ensures)) (read c.give.type_inv)
