-- `sheet_rules::decide::decide_point` meets its contract. Assumes nothing.
use mathlib.Core.Path.{◌≡◌, sym, ◌∙◌}
use mathlib.Core.Bool.{or-true, or-false}
use mir.Syntax.{w64}
use mir.Val.{to_z, of_z}
use Rattle.refusal.specs.Refusals.{number}
use Rattle.line.proofs.Readers.{point-sound}
use Rattle.sheet_rules.proofs.Laws.{gave-refusal}
use borrow.Author.Rules.{rules}
use Rattle.sheet_rules.proofs.decide.decide_point.Goals as goal

pub convert_point-requires : goal.convert_point-requires
convert_point-requires c =
    let y : to_z w64 (of_z w64 c.args.state.profile) ≡ c.args.state.profile = search rules in
    point-sound _ _ _ (sym (rw y at c.in-Ok.ensures))

pub returns-in-Err-Malformed : goal.returns-in-Err-Malformed
returns-in-Err-Malformed c =
    λ s h.
    let y : to_z w64 (of_z w64 c.args.state.profile) ≡ c.args.state.profile = search rules in
    rw (sym (rw (y, h.profile, c.in-Err-Malformed.field-0-is) at c.in-Err-Malformed.ensures)) (gave-refusal h _ _ _ _ h.refused (h.closed ∙ sym (or-false s.closed)) (number c.in-Err-Malformed.fault.refusal) c.in-Err-Malformed.fault.place _ c.refuse.ensures)

pub returns-in-Err-Refused : goal.returns-in-Err-Refused
returns-in-Err-Refused c =
    λ s h.
    let y : to_z w64 (of_z w64 c.args.state.profile) ≡ c.args.state.profile = search rules in
    rw (sym (rw (y, h.profile, c.in-Err-Refused.field-0-is) at c.in-Err-Refused.ensures)) (gave-refusal h _ _ _ _ h.refused (sym (or-true s.closed)) (number c.in-Err-Refused.refusal) 0 _ (rw c.closing.ensures at c.refuse-in-Err-Refused.ensures))

pub returns-in-Ok : goal.returns-in-Ok
returns-in-Ok c =
    λ s h.
    let y : to_z w64 (of_z w64 c.args.state.profile) ≡ c.args.state.profile = search rules in
    rw (sym (rw (y, h.profile) at c.in-Ok.ensures)) (c.convert_point.ensures s h)
