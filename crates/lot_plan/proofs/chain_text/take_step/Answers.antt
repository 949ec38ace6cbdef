-- `lot_plan::chain_text::take_step` meets its contract. Assumes nothing.
use borrow.Author.Rules.{rules}
use mathlib.Core.Path.{◌≡◌, sym, ap, ◌∙◌}
use mir.Syntax.{w64}
use mir.Val.{to_z, of_z}
use Rattle.refusal.specs.Refusals.{number, fault_number}
use Rattle.refusal.proofs.Refusals.{not-none}
use Rattle.line.specs.Answers.{line_told}
use Rattle.line.proofs.Readers.{step-sound}
use Rattle.lot_plan.proofs.Laws.{handed-on, mapped, took-no-step, took-step}
use Rattle.lot_plan.proofs.chain_text.take_step.Goals as goal

pub returns-in_err-extend : goal.returns-in_err-extend
returns-in_err-extend c =
    λ ss h.
    let p : to_z w64 (of_z w64 c.args.profile) ≡ c.args.profile = search rules in
    let e = sym (rw p at c.read_step.ensures) ∙ ap line_told (mapped c.read_step.result c.map_err.result _ c.map_err.ensures.cases c.in_ok-step.was) in
    let n = c.in_err-extend.field-0.0 in
    rw (e, handed-on n c.from_residual-in_err-extend.result c.from_residual-in_err-extend.ensures.1)
    (took-no-step _ _ ss h _ (step-sound _ _ _ e) (number n) (sym (ap fault_number c.in_err-extend.was) ∙ rw p at c.extend.ensures.0) (not-none n) _)

pub returns : goal.returns
returns c =
    λ ss h.
    let p : to_z w64 (of_z w64 c.args.profile) ≡ c.args.profile = search rules in
    let e = sym (rw p at c.read_step.ensures) ∙ ap line_told (mapped c.read_step.result c.map_err.result _ c.map_err.ensures.cases c.in_ok-step.was) in
    rw (e, p)
    (took-step _ _ ss h _ (step-sound _ _ _ e) (sym (rw p at c.extend.ensures.0) ∙ ap fault_number c.in_ok-extend.was) _ (rw p at c.extend.ensures.1))
