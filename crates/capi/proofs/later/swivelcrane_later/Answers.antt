-- `capi::later::swivelcrane_later` meets its contract: the length, and then what the library answers. Assumes nothing.
use borrow.Author.Tests.{eq-eqb, ne_eqb}
use mathlib.Core.Path.{◌≡◌, sym, ◌∙◌, ap}
use Rattle.std.specs.Prelude.{Ok}
use Rattle.line.specs.declared.Which.{Which}
use Rattle.line.specs.Later.{First, Second, later_of, verdict_told}
use Rattle.rounding.proofs.Machine.{told}
use Rattle.capi.specs.Calls.{of_verdict, later_call}
use Rattle.capi.proofs.Laws.{by, declined, wrong}
use Rattle.capi.proofs.later.swivelcrane_later.Goals as goal

pub returns-then-which-ne1 : goal.returns-then-which-ne1
unfolding later_call
returns-then-which-ne1 c = wrong (rw (ne_eqb _ _ c.if-which-ne1.true))

pub returns-in-Err : goal.returns-in-Err
unfolding later_call
returns-in-Err c = declined (rw (eq-eqb _ _ c.if-which-ne1.false) (ap of_verdict (sym c.in-Err.ensures))) (told c.status.type_inv ∙ c.status.ensures)

pub returns-in-Ok-First : goal.returns-in-Ok-First
unfolding later_call
returns-in-Ok-First c =
    let e : later_of c.args.first.now c.args.second.now ≡ First = sym c.in-Ok-First.ensures ∙ ap (λ (w : Which). verdict_told (Ok w)) c.in-Ok-First.field-0-is in
    by c.give.ensures (rw (eq-eqb _ _ c.if-which-ne1.false) (ap of_verdict e)) (told c.give.type_inv)

pub returns-in-Ok-Second : goal.returns-in-Ok-Second
unfolding later_call
returns-in-Ok-Second c =
    let e : later_of c.args.first.now c.args.second.now ≡ Second = sym c.in-Ok-Second.ensures ∙ ap (λ (w : Which). verdict_told (Ok w)) c.in-Ok-Second.field-0-is in
    by c.give-in-Ok-Second.ensures (rw (eq-eqb _ _ c.if-which-ne1.false) (ap of_verdict e)) (told c.give-in-Ok-Second.type_inv)
