-- `chain::lent::fault_in` meets its contract: numbers that pass say a chain with no fault. Assumes nothing.
use mathlib.Core.Path.{sym, ◌∙◌, ap}
use lib.IntN.{ℤ}
use borrow.Author.Tests.{leb-true}
use Rattle.refusal.specs.Order.{first}
use Rattle.rounding.proofs.Machine.{rd}
use Rattle.ranges.specs.Ranges.{profile_range}
use Rattle.ranges.proofs.Ranges.{both}
use Rattle.chain.specs.Faults.{chain_tests}
use Rattle.chain.specs.Numbers.{chain_from, steps_in, good_steps}
use Rattle.chain.proofs.LentSteps.{good-chain}
use Rattle.chain.proofs.lent.fault_in.Goals as goal

pub are_good-requires : goal.are_good-requires
are_good-requires c = leb-true _ _ (both _ _ c.if-is_profile-steps.true).1

pub returns-then-are_good : goal.returns-then-are_good
returns-then-are_good c =
    let s = c.args in
    let t = both _ _ c.if-is_profile-steps.true in
    let p = sym (c.is_profile.ensures ∙ ap profile_range (rd c.ranges.profile)) ∙ t.0 in
    let g = sym (c.are_good.ensures ∙ ap (λ (y : ℤ). good_steps y (steps_in s.steps.now)) (rd c.ranges.profile)) ∙ c.if-are_good.true in
    sym (good-chain s.profile s.steps.now p (leb-true _ _ t.1) g)

pub returns : goal.returns
returns c =
    let s = c.args in
    c.fault_made.ensures ∙ ap (λ (y : ℤ). first (chain_tests (chain_from y s.steps.now))) (rd c.ranges.profile)
