-- `chain::steps::convert::lent::arrive` meets its contract: the chain decides first, then the point, then the walk. Assumes nothing.
use Rattle.std.proofs.Common.{rules, ◌≡◌, ◌*◌, ◌/◌, ◌<◌, length, drop, sym, ◌∙◌, ap}
use mathlib.Core.Path.{ap₂}
use lib.IntN.{ℤ}
use Rattle.rounding.proofs.Machine.{rd}
use Rattle.refusal.specs.Order.{first}
use Rattle.chain.specs.Faults.{chain_tests}
use Rattle.std.proofs.lemmas.Result.{err_from_is_err_and}
use Rattle.refusal.specs.Refusals.{number}
use Rattle.refusal.proofs.Refusals.{not-none}
use Rattle.chain.specs.declared.Realization.{Realization}
use Rattle.chain.specs.Convert.{arrival_of}
use Rattle.chain.specs.Numbers.{step_from, chain_from, steps_in, eight_from}
use Rattle.chain.proofs.Accepted.{entry}
use Rattle.chain.proofs.LentSteps.{lent-holds, eight-steps, steps-from, sound-step}
use Rattle.chain.proofs.Answering.{chain-refuses, point-refuses, walk-leaves, walk-ends, ends-are, steps_long}
use Rattle.chain.proofs.steps.convert.lent.arrive.Goals as goal

pub returns-in_err-fault_in : goal.returns-in_err-fault_in
returns-in_err-fault_in c =
    let s = c.args in
    let p = err_from_is_err_and c.from_residual.result c.from_residual.ensures.1 in
    rw (p.1, p.2) (ap arrival_of (
    chain-refuses (chain_from s.profile s.steps.now) s.direction s.point (number c.in_err-fault_in.field-0.0) (c.in_err-fault_in.ensures ∙ ap (λ (y : ℤ). first (chain_tests (chain_from y s.steps.now))) (rd c.ranges.profile)) (not-none _)))

pub returns-in_err-entry_fault : goal.returns-in_err-entry_fault
returns-in_err-entry_fault c =
    let s = c.args in
    let p = err_from_is_err_and c.from_residual-in_err-entry_fault.result c.from_residual-in_err-entry_fault.ensures.1 in
    let own = ends-are s.direction _ _ _ _ _ c.either.ensures c.start_in-start.ensures c.end_in-end.ensures in
    rw (p.1, p.2) (ap arrival_of (
    point-refuses (chain_from s.profile s.steps.now) s.direction s.point (sym (c.in_ok-fault_in.ensures ∙ ap (λ (y : ℤ). first (chain_tests (chain_from y s.steps.now))) (rd c.ranges.profile))) (number c.in_err-entry_fault.field-0.0)
    (c.in_err-entry_fault.ensures ∙ ap₂ (λ (y : ℤ) (r : Realization). entry y s.point r) (rd c.ranges.profile) own)
    (not-none _)))

pub walk-requires-clause-sound : goal.walk-requires-clause-sound
walk-requires-clause-sound c i s below there =
    let ns = c.args.steps.now in
    let holds = lent-holds c.args.profile ns (sym (c.in_ok-fault_in.ensures ∙ ap (λ (y : ℤ). first (chain_tests (chain_from y ns))) (rd c.ranges.profile))) in
    let is : s ≡ step_from (drop (13 * i) ns) = search rules in
    rw is (sound-step ns holds.0 i below holds.1)

pub returns-in_err-position : goal.returns-in_err-position
returns-in_err-position c =
    let s = c.args in
    let ns = s.steps.now in
    let p = err_from_is_err_and c.from_residual-in_err-position.result c.from_residual-in_err-position.ensures.1 in
    let own = ends-are s.direction _ _ _ _ _ c.either.ensures c.start_in-start.ensures c.end_in-end.ensures in
    let sound = sym (c.in_ok-fault_in.ensures ∙ ap (λ (y : ℤ). first (chain_tests (chain_from y ns))) (rd c.ranges.profile)) in
    let few = (lent-holds s.profile ns sound).0 in
    let long = steps_long (eight_from ns) (length ns / 13) few (eight-steps ns) in
    rw (p.1, p.2) (ap arrival_of (
    walk-leaves (chain_from s.profile ns) s.direction s.point sound
    (sym (c.in_ok-entry_fault.ensures ∙ ap₂ (λ (y : ℤ) (r : Realization). entry y s.point r) (rd c.ranges.profile) own))
    (number c.in_err-position.field-0.0)
    (c.in_err-position.ensures (steps_in ns) long (λ i t below there.
    let is : t ≡ step_from (drop (13 * i) ns) = search rules in
    let inside : i < length ns / 13 = rw long at below in
    rw is (steps-from ns few i inside)))))

pub returns : goal.returns
returns c =
    let s = c.args in
    let ns = s.steps.now in
    let own = ends-are s.direction _ _ _ _ _ c.either.ensures c.start_in-start.ensures c.end_in-end.ensures in
    let other = ends-are s.direction _ _ _ _ _ c.either-realization.ensures c.end_in-end.ensures c.start_in-start.ensures in
    let sound = sym (c.in_ok-fault_in.ensures ∙ ap (λ (y : ℤ). first (chain_tests (chain_from y ns))) (rd c.ranges.profile)) in
    let few = (lent-holds s.profile ns sound).0 in
    let long = steps_long (eight_from ns) (length ns / 13) few (eight-steps ns) in
    rw other (ap arrival_of (
    walk-ends (chain_from s.profile ns) s.direction s.point sound
    (sym (c.in_ok-entry_fault.ensures ∙ ap₂ (λ (y : ℤ) (r : Realization). entry y s.point r) (rd c.ranges.profile) own))
    c.in_ok-position.position
    (c.in_ok-position.ensures (steps_in ns) long (λ i t below there.
    let is : t ≡ step_from (drop (13 * i) ns) = search rules in
    let inside : i < length ns / 13 = rw long at below in
    rw is (steps-from ns few i inside)))))
