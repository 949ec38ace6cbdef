-- `chain::checks::later_fault` meets its contract: where the step is refused by itself, that comes before the join. Assumes nothing.
use mathlib.Core.Path.{◌≡◌, sym, ◌∙◌, ap}
use mathlib.Core.List.{[], ◌∷◌}
use native.Mathlib.Omega.{arith}
use mathlib.Core.Bool.{Bool, true, false, not}
use borrow.Author.Rules.{rules}
use lib.IntN.{ℤ}
use Rattle.refusal.specs.Order.{first, pick}
use Rattle.refusal.specs.Refusals.{number, fault_number}
use Rattle.refusal.proofs.Orders.{passed, stop, on}
use Rattle.refusal.proofs.Refusals.{not-none}
use Rattle.rounding.proofs.Machine.{rd}
use Rattle.chain.specs.Faults.{step_tests, join_test, step_fault}
use Rattle.chain.proofs.Within.{two_places}
use Rattle.chain.proofs.checks.later_fault.Goals as goal

pub returns-in_err-step_fault : goal.returns-in_err-step_fault
unfolding step_fault
returns-in_err-step_fault c =
    let s = c.args in
    let e = c.in_err-step_fault.field-0.0 in
    let f : number e ≡ first (step_tests s.profile s.step) = c.in_err-step_fault.ensures ∙ ap (λ (y : ℤ). step_fault y s.step) (rd c.ranges.profile) in
    let told : fault_number c.from_residual.result ≡ number e = search rules in
    told ∙ f ∙ sym (stop (step_tests s.profile s.step) (join_test s.previous s.step ∷ []) (λ z. not-none e (f ∙ z)))

pub returns-then-ne : goal.returns-then-ne
unfolding step_fault
returns-then-ne c =
    let s = c.args in
    let e = two_places s.previous.after s.step.before true c.if-ne.ensures in
    let p : first (step_tests s.profile s.step) ≡ 0 = sym (c.in_ok-step_fault.ensures ∙ ap (λ (y : ℤ). step_fault y s.step) (rd c.ranges.profile)) in
    ap (λ (b : Bool). pick (not b) 5 0) (sym e) ∙ sym (on (step_tests s.profile s.step) (join_test s.previous s.step ∷ []) (passed (step_tests s.profile s.step) tt p))

pub returns : goal.returns
unfolding step_fault
returns c = let e = two_places c.args.previous.after c.args.step.before false c.if-ne.ensures in grind (arith, e)
