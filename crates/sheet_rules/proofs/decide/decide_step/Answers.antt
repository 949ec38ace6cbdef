-- `sheet_rules::decide::decide_step` meets its contract. Assumes nothing.
use mathlib.Core.Path.{◌≡◌, refl, sym}
use mathlib.Core.Bool.{true}
use mir.Syntax.{w64}
use mir.Val.{to_z, of_z}
use Rattle.refusal.specs.Refusals.{number}
use Rattle.line.proofs.Readers.{step-sound}
use Rattle.sheet_rules.proofs.Laws.{gave-refusal}
use borrow.Author.Rules.{rules}
use Rattle.sheet_rules.proofs.decide.decide_step.Goals as goal

pub take_step-requires : goal.take_step-requires
take_step-requires c =
    let y : to_z w64 (of_z w64 c.args.state.profile) ≡ c.args.state.profile = search rules in
    step-sound _ _ _ (sym (rw y at c.in-Ok.ensures))

pub returns-in-Err-Malformed : goal.returns-in-Err-Malformed
returns-in-Err-Malformed c =
    λ s h.
    let y : to_z w64 (of_z w64 c.args.state.profile) ≡ c.args.state.profile = search rules in
    rw (sym (rw (y, h.profile, c.in-Err-Malformed.field-0-is) at c.in-Err-Malformed.ensures)) (gave-refusal h true _ _ _ refl h.closed (number c.in-Err-Malformed.fault.refusal) c.in-Err-Malformed.fault.place _ (rw c.blocked.ensures at c.refuse.ensures))

pub returns-in-Err-Refused : goal.returns-in-Err-Refused
returns-in-Err-Refused c =
    λ s h.
    let y : to_z w64 (of_z w64 c.args.state.profile) ≡ c.args.state.profile = search rules in
    rw (sym (rw (y, h.profile, c.in-Err-Refused.field-0-is) at c.in-Err-Refused.ensures)) (gave-refusal h true _ _ _ refl h.closed (number c.in-Err-Refused.refusal) 0 _ (rw c.blocked-in-Err-Refused.ensures at c.refuse-in-Err-Refused.ensures))

pub returns-in-Ok : goal.returns-in-Ok
returns-in-Ok c =
    λ s h.
    let y : to_z w64 (of_z w64 c.args.state.profile) ≡ c.args.state.profile = search rules in
    rw (sym (rw (y, h.profile) at c.in-Ok.ensures)) (c.take_step.ensures s h)
