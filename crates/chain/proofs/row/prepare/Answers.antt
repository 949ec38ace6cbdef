-- `chain::row::prepare` meets its contract: no step of a good chain is refused, and the steps that are left, put to the numbers so far, give what all steps give. Assumes nothing.
use mathlib.Core.Path.{◌≡◌, refl, sym, ◌∙◌, ap}
use mathlib.Core.List.{List, []}
use Prim.Native.Nat.{ℕ, ◌<◌}
use native.Mathlib.Omega.{arith}
use borrow.Author.Rules.{rules}
use lib.IntN.{ℤ}
use lib.ListN.{length, drop, get_or}
use mir.Syntax.{w64}
use mir.Val.{to_z, of_z}
use Rattle.refusal.proofs.Orders.{head-holds, unless-none}
use Rattle.refusal.proofs.Refusals.{not-none}
use Rattle.ranges.specs.Ranges.{profile_range}
use Rattle.chain.specs.Faults.{steps_of}
use Rattle.chain.specs.Prepared.{extend_fault, extended_by}
use Rattle.chain.specs.PointRow.{no_numbers, extended_all}
use Rattle.chain.proofs.Accepted.{chain-passed}
use Rattle.chain.proofs.AtIndex.{step_past_end, none_left}
use Rattle.chain.proofs.Keeping.{holds-none}
use Rattle.chain.proofs.Readying.{accepted-next, holds-next, put-next}
use Rattle.chain.proofs.row.prepare.Goals as goal

pub loop-i-init : goal.loop-i-init
loop-i-init c =
    let h = c.args.chain in
    let good = sym c.in_ok-chain_fault.ensures in
    let none : c.args.numbers.now ≡ no_numbers = c.requires in (
      rw none (holds-none h.profile no_numbers (head-holds (profile_range h.profile) _ _ good).0 refl refl),
      ap (λ (l : List ℤ). extended_all h.profile l (steps_of h)) none,
    )

pub returns-in_err-extend : goal.returns-in_err-extend
returns-in_err-extend c =
    let h = c.args.chain in
    let k = c.loop-i in
    let good = sym c.in_ok-chain_fault.ensures in
    let few = (chain-passed h good).0 in
    let y : to_z w64 (of_z w64 h.profile) ≡ h.profile = search rules in
    let e = c.in_err-extend.ensures.0 ∙ ap (λ (y : ℤ). extend_fault y k.numbers (get_or h.steps k.i step_past_end)) y in
    absurd (not-none c.in_err-extend.field-0.0 (e ∙ accepted-next h good k.i c.loop-i-test.true (omega (arith, few)) k.numbers k.invariant.0))

pub loop-i-preserved : goal.loop-i-preserved
loop-i-preserved c =
    let h = c.args.chain in
    let k = c.loop-i in
    let good = sym c.in_ok-chain_fault.ensures in
    let few = (chain-passed h good).0 in
    let inside : k.i < length h.steps = omega (arith, few, c.loop-i-test.true) in
    let y : to_z w64 (of_z w64 h.profile) ≡ h.profile = search rules in
    let e = c.in_ok-extend.ensures.1 ∙ ap (λ (y : ℤ). extended_by y k.numbers (get_or h.steps k.i step_past_end)) y in
    (holds-next h good k.i c.loop-i-test.true inside k.numbers k.invariant.0 _ e, put-next h good k.i c.loop-i-test.true inside k.numbers _ e ∙ k.invariant.1)

-- no step is left
done : (y : ℤ) (l : List ℤ) → l ≡ extended_all y l []
unfolding extended_all
done y l = refl

pub returns : goal.returns
returns c =
    let h = c.args.chain in
    let k = c.loop-i in
    let good = sym c.in_ok-chain_fault.ensures in
    let e : k.i ≡ h.length = omega (arith, k.auto.i-end, c.loop-i-test.false) in
    let none : drop k.i (steps_of h) ≡ [] = ap (λ (j : ℕ). drop j (steps_of h)) e ∙ none_left h.steps h.length in
    (sym good, done h.profile k.numbers ∙ ap (extended_all h.profile k.numbers) (sym none) ∙ k.invariant.1 ∙ sym (unless-none _ (λ n. no_numbers) _ good))
