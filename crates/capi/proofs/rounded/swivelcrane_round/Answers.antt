-- `capi::rounded::swivelcrane_round` meets its contract: the length, and then what the library answers. Assumes nothing.
use borrow.Author.Rules.{rules}
use borrow.Author.Tests.{eq-eqb, ne_eqb}
use mathlib.Core.List.{[], ◌∷◌}
use mathlib.Core.Path.{sym, ◌∙◌, ap}
use mir.Syntax.{w64}
use mir.Val.{SFits}
use Rattle.rounding.proofs.Machine.{told}
use Rattle.capi.specs.Calls.{of_rounded, round_call}
use Rattle.capi.proofs.Laws.{declined, wrong, handed-whole}
use Rattle.capi.proofs.rounded.swivelcrane_round.Goals as goal

pub returns-then-out-ne1 : goal.returns-then-out-ne1
unfolding round_call
returns-then-out-ne1 c = wrong (rw (ne_eqb _ _ c.if-out-ne1.true))

pub returns-in-Err : goal.returns-in-Err
unfolding round_call
returns-in-Err c = declined (rw (eq-eqb _ _ c.if-out-ne1.false) (ap of_rounded (sym (c.in-Err.ensures)))) (told c.status.type_inv ∙ c.status.ensures)

pub returns-in-Ok : goal.returns-in-Ok
unfolding round_call
returns-in-Ok c =
    let x0 : SFits w64 c.in-Ok.n = search rules in
    handed-whole {vs = c.in-Ok.n ∷ []} c.give.ensures (rw (eq-eqb _ _ c.if-out-ne1.false) (ap of_rounded (sym (c.in-Ok.ensures)))) (x0.sfits, tt) (told c.give.type_inv)
