-- `sheet_rules::decide::take_step` meets its contract. Assumes nothing.
use mathlib.Core.Path.{◌≡◌, refl, sym}
use Rattle.refusal.proofs.Refusals.{not-none}
use Rattle.sheet_rules.proofs.Laws.{gave-earlier, gave-misplaced, gave-no-step, gave-step}
use mir.Syntax.{w64}
use mir.Val.{to_z, of_z}
use borrow.Author.Rules.{rules}
use Rattle.sheet_rules.proofs.decide.take_step.Goals as goal

pub returns-then-state : goal.returns-then-state
returns-then-state c =
    λ s h.
    gave-earlier h c.args.step c.if-state.true _ (rw c.blocked-refused.ensures at c.refuse.ensures)

pub returns-then-state-2 : goal.returns-then-state-2
returns-then-state-2 c =
    λ s h.
    gave-misplaced h c.args.step c.if-state.false c.if-state-2.true _ (rw c.blocked-refused.ensures at c.refuse-then-state-2.ensures)

pub returns-in-Err : goal.returns-in-Err
returns-in-Err c =
    λ s h.
    let y : to_z w64 (of_z w64 c.args.state.profile) ≡ c.args.state.profile = search rules in
    gave-no-step h c.args.step c.if-state.false c.if-state-2.false c.requires _ (rw y at c.in-Err.ensures.0) (not-none _) _ (rw y at c.in-Err.ensures.1) _
    (rw c.blocked-refused.ensures at c.refuse-in-Err.ensures)

pub returns-in-Ok : goal.returns-in-Ok
returns-in-Ok c =
    λ s h.
    let y : to_z w64 (of_z w64 c.args.state.profile) ≡ c.args.state.profile = search rules in
    gave-step h c.args.step c.if-state.false c.if-state-2.false c.requires (sym (rw y at c.in-Ok.ensures.0)) _ (rw y at c.in-Ok.ensures.1) _ refl refl
