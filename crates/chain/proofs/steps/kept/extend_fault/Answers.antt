-- `chain::steps::kept::extend_fault` meets its contract: the step's own tests, then where it begins, and the room. Assumes nothing.
use mathlib.Core.Path.{◌≡◌, sym, ◌∙◌, ap, ap₂}
use mathlib.Core.Bool.{◌||◌}
use lib.IntN.{ℤ, pos}
use Rattle.refusal.specs.Order.{first}
use Rattle.refusal.proofs.Orders.{passed, on}
use Rattle.rounding.proofs.Machine.{rd}
use Rattle.ranges.specs.Ranges.{within, equal}
use Rattle.chain.specs.Faults.{step_tests, step_fault}
use Rattle.chain.proofs.Within.{one_place}
use Rattle.chain.proofs.steps.kept.extend_fault.Goals as goal

pub returns-then-not-equal-eq : goal.returns-then-not-equal-eq
unfolding step_fault
returns-then-not-equal-eq c =
    let s = c.args in
    let p : first (step_tests s.profile s.step) ≡ 0 = sym (c.in_ok-step_fault.ensures ∙ ap (λ (y : ℤ). step_fault y s.step) (rd c.ranges.profile)) in
    let e = sym (ap₂ ◌||◌ (c.equal.ensures ∙ ap (equal (pos 0)) (rd c.ranges.n)) (sym (one_place s.end s.step.before c.eq.result c.eq.ensures))) ∙ c.if-not-equal-eq.true in
    rw (on (step_tests s.profile s.step) _ (passed (step_tests s.profile s.step) tt p), e)

pub returns-then-not-within : goal.returns-then-not-within
unfolding step_fault
returns-then-not-within c =
    let s = c.args in
    let p : first (step_tests s.profile s.step) ≡ 0 = sym (c.in_ok-step_fault.ensures ∙ ap (λ (y : ℤ). step_fault y s.step) (rd c.ranges.profile)) in
    let e = sym (ap₂ ◌||◌ (c.equal.ensures ∙ ap (equal (pos 0)) (rd c.ranges.n)) (sym (one_place s.end s.step.before c.eq.result c.eq.ensures))) ∙ c.if-not-equal-eq.false in
    let w = sym (c.within.ensures ∙ ap (λ (z : ℤ). within (pos 0) z (pos 7)) (rd c.ranges.n)) ∙ c.if-not-within.true in
    rw (on (step_tests s.profile s.step) _ (passed (step_tests s.profile s.step) tt p), e, w)

pub returns : goal.returns
unfolding step_fault
returns c =
    let s = c.args in
    let p : first (step_tests s.profile s.step) ≡ 0 = sym (c.in_ok-step_fault.ensures ∙ ap (λ (y : ℤ). step_fault y s.step) (rd c.ranges.profile)) in
    let e = sym (ap₂ ◌||◌ (c.equal.ensures ∙ ap (equal (pos 0)) (rd c.ranges.n)) (sym (one_place s.end s.step.before c.eq.result c.eq.ensures))) ∙ c.if-not-equal-eq.false in
    let w = sym (c.within.ensures ∙ ap (λ (z : ℤ). within (pos 0) z (pos 7)) (rd c.ranges.n)) ∙ c.if-not-within.false in
    rw (on (step_tests s.profile s.step) _ (passed (step_tests s.profile s.step) tt p), e, w)
