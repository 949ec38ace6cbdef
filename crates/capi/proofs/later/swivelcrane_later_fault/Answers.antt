-- `capi::later::swivelcrane_later_fault` meets its contract: the length, and then what the library answers. Assumes nothing.
use borrow.Author.Tests.{eq-eqb, ne_eqb}
use mathlib.Core.List.{[], ◌∷◌}
use mathlib.Core.Path.{sym, ap}
use Rattle.rounding.proofs.Machine.{told}
use Rattle.capi.specs.Calls.{of_later_fault, later_fault_call}
use Rattle.capi.proofs.Laws.{by, wrong, handed-whole}
use Rattle.capi.proofs.later.swivelcrane_later_fault.Goals as goal

pub returns-then-out-ne3 : goal.returns-then-out-ne3
unfolding later_fault_call
returns-then-out-ne3 c = wrong (rw (ne_eqb _ _ c.if-out-ne3.true))

pub returns-in-Ok : goal.returns-in-Ok
unfolding later_fault_call
returns-in-Ok c = by c.give.ensures (rw (eq-eqb _ _ c.if-out-ne3.false) (ap of_later_fault (sym c.in-Ok.ensures))) (told c.give.type_inv)

pub returns-in-Err : goal.returns-in-Err
unfolding later_fault_call
returns-in-Err c =
    handed-whole {vs = c.status-number.result ∷ c.from.result ∷ c.from-in-Err.result ∷ []} c.give-in-Err.ensures
    (rw (eq-eqb _ _ c.if-out-ne3.false, c.status-number.ensures, c.from.ensures, c.from-in-Err.ensures) (ap of_later_fault (sym c.in-Err.ensures)))
    (c.status-number.type_inv, (c.from.type_inv, (c.from-in-Err.type_inv, tt))) (told c.give-in-Err.type_inv)
