-- `chain::checks::steps_fault` meets its contract: the first step's tests, then those of each step after it. Assumes nothing.
use mathlib.Core.Path.{◌≡◌, sym, ◌∙◌, ap}
use mathlib.Core.List.{List, [], ◌∷◌, ◌++◌}
use Prim.Native.Nat.{ℕ, ◌+◌, ◌<◌}
use native.Mathlib.Omega.{arith}
use borrow.Author.Rules.{rules}
use lib.IntN.{ℤ}
use lib.ListN.{length, take, drop, get_or}
use mir.Syntax.{w64}
use mir.Val.{to_z, of_z}
use Rattle.refusal.specs.Order.{first}
use Rattle.refusal.specs.Refusals.{number, fault_number}
use Rattle.refusal.specs.declared.Refusal.{Refusal}
use Rattle.refusal.proofs.Orders.{or_else-left, or_else-right}
use Rattle.refusal.proofs.Refusals.{not-none}
use Rattle.chain.specs.declared.Step.{Step}
use Rattle.chain.specs.Faults.{step_tests, join_test, later_tests, steps_tests, step_fault}
use Rattle.chain.proofs.AtIndex.{step_past_end, later-from, none_left, first-tests}
use Rattle.chain.proofs.checks.steps_fault.Goals as goal

-- the first step's tests, then the others'
module _ (y : ℤ) (l : List Step) (n : ℕ) (some : 0 < n) (inside : 0 < length l) where
  stops-first : (e : Refusal) → number e ≡ step_fault y (get_or l 0 step_past_end) → number e ≡ first (steps_tests y (take n l))
  unfolding step_fault
  stops-first e f = f ∙ sym (first-tests y l n some inside ∙ or_else-left _ _ (λ z. not-none e (f ∙ z)))

  goes_first : 0 ≡ step_fault y (get_or l 0 step_past_end) → first (later_tests y (get_or l 0 step_past_end) (drop 1 (take n l))) ≡ first (steps_tests y (take n l))
  unfolding step_fault
  goes_first f = sym (first-tests y l n some inside ∙ or_else-right _ _ (sym f))

-- the tests of the step at an index, then those of the rest
module _ (l : List Step) (n i : ℕ) (below : i < n) (inside : i < length l) (y : ℤ) (s : Step) (all : ℕ) (rest : first (later_tests y s (drop i (take n l))) ≡ all) where
  abbrev here : Step
  here = get_or l i step_past_end

  stops-there : (e : Refusal) → number e ≡ first (step_tests y here ++ (join_test s here ∷ [])) → number e ≡ all
  stops-there e f = f ∙ sym (or_else-left _ _ (λ z. not-none e (f ∙ z))) ∙ sym (later-from l n i below inside y s) ∙ rest

  goes_on : 0 ≡ first (step_tests y here ++ (join_test s here ∷ [])) → first (later_tests y here (drop (i + 1) (take n l))) ≡ all
  goes_on f = sym (or_else-right _ _ (sym f)) ∙ sym (later-from l n i below inside y s) ∙ rest

pub returns-in_err-step_fault : goal.returns-in_err-step_fault
returns-in_err-step_fault c =
    let h = c.args.chain in
    let e = c.in_err-step_fault.field-0.0 in
    let y : to_z w64 (of_z w64 h.profile) ≡ h.profile = search rules in
    let told : fault_number c.from_residual.result ≡ number e = search rules in
    told ∙ stops-first h.profile h.steps h.length (omega arith) (omega arith) e (c.in_err-step_fault.ensures ∙ ap (λ (y : ℤ). step_fault y (get_or h.steps 0 step_past_end)) y)

pub loop-i-init : goal.loop-i-init
loop-i-init c =
    let h = c.args.chain in
    let y : to_z w64 (of_z w64 h.profile) ≡ h.profile = search rules in
    goes_first h.profile h.steps h.length (omega arith) (omega arith) (c.in_ok-step_fault.ensures ∙ ap (λ (y : ℤ). step_fault y (get_or h.steps 0 step_past_end)) y)

pub returns-in_err-later_fault : goal.returns-in_err-later_fault
returns-in_err-later_fault c =
    let h = c.args.chain in
    let i = c.loop-i.i in
    let e = c.in_err-later_fault.field-0.0 in
    let y : to_z w64 (of_z w64 h.profile) ≡ h.profile = search rules in
    let told : fault_number c.from_residual-in_err-later_fault.result ≡ number e = search rules in
    told ∙ stops-there h.steps h.length i (omega arith) (omega arith) h.profile c.loop-i.previous _ c.loop-i.invariant e
    (c.in_err-later_fault.ensures ∙ ap (λ (y : ℤ). first (step_tests y (get_or h.steps i step_past_end) ++ (join_test c.loop-i.previous (get_or h.steps i step_past_end) ∷ []))) y)

pub loop-i-preserved : goal.loop-i-preserved
loop-i-preserved c =
    let h = c.args.chain in
    let i = c.loop-i.i in
    let y : to_z w64 (of_z w64 h.profile) ≡ h.profile = search rules in
    goes_on h.steps h.length i (omega arith) (omega arith) h.profile c.loop-i.previous _ c.loop-i.invariant
    (c.in_ok-later_fault.ensures ∙ ap (λ (y : ℤ). first (step_tests y (get_or h.steps i step_past_end) ++ (join_test c.loop-i.previous (get_or h.steps i step_past_end) ∷ []))) y)

pub returns : goal.returns
returns c =
    let h = c.args.chain in
    let e : c.loop-i.i ≡ h.length = omega (arith, c.loop-i.auto.i-end) in
    ap (λ (ss : List Step). first (later_tests h.profile c.loop-i.previous ss)) (sym (ap (λ (k : ℕ). drop k (take h.length h.steps)) e ∙ none_left h.steps h.length)) ∙ c.loop-i.invariant
