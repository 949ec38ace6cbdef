-- `chain::lent::are_good` meets its contract: each step goes on from where the one before it ended. Assumes nothing.
use mathlib.Core.Path.{◌≡◌, sym, ◌∙◌, ap, ap₂, subst, subst⁻¹}
use mathlib.Core.Bool.{Bool, ◌&&◌}
use mathlib.Core.List.{List, []}
use Prim.Native.Nat.{ℕ, ◌+◌, ◌*◌, ◌/◌}
use native.Mathlib.Omega.{arith}
use lib.IntN.{ℤ}
use lib.ListN.{length, take, drop}
use Rattle.rounding.proofs.Machine.{rd}
use Rattle.chain.specs.declared.Realization.{Realization}
use Rattle.chain.specs.Numbers.{step_from, eight_from, steps_in, dated, follows, all_follow, good_steps}
use Rattle.chain.proofs.AtIndex.{none_left}
use Rattle.chain.proofs.LentSteps.{rest-is, good-begins, ends_there, goes_on}
use Rattle.chain.proofs.lent.are_good.Goals as goal

-- what the invariant says, of the profile as it is
abbrev Decides : Realization → ℕ → List ℤ → ℤ → Type 0
Decides end i ns y = all_follow y end (drop i (steps_in ns)) ≡ good_steps y (steps_in ns)

pub returns-then-n-eq0 : goal.returns-then-n-eq0
unfolding good_steps
returns-then-n-eq0 c = let s = c.args in ap (λ (n : ℕ). good_steps s.profile (take n (eight_from s.steps.now))) (sym c.if-n-eq0.true)

pub returns-then-not-is_dated : goal.returns-then-not-is_dated
returns-then-not-is_dated c =
    let s = c.args in
    let d = sym (c.is_dated.ensures ∙ ap₂ dated (rd c.ranges.profile) c.before_in-end.ensures) ∙ c.if-not-is_dated.true in
    sym (good-begins s.profile s.steps.now c.requires (omega (arith, c.if-n-eq0.false)) ∙ (rw d))

-- where the first step begins well, the steps decide
pub loop-i-init : goal.loop-i-init
loop-i-init c =
    let s = c.args in
    let d = sym (c.is_dated.ensures ∙ ap₂ dated (rd c.ranges.profile) c.before_in-end.ensures) ∙ c.if-not-is_dated.false in
    subst⁻¹ (Decides c.before_in-end.result 0 s.steps.now) (rd c.ranges.profile)
    (sym
    (good-begins s.profile s.steps.now c.requires (omega (arith, c.if-n-eq0.false))
    ∙ ap₂ (λ (b : Bool) (r : Realization). b && all_follow s.profile r (steps_in s.steps.now)) d (sym c.before_in-end.ensures)))

pub returns-then-not-does_follow : goal.returns-then-not-does_follow
returns-then-not-does_follow c =
    let s = c.args in
    let k = c.loop-i in
    let rest = subst (Decides k.end k.i s.steps.now) (rd c.ranges.profile) k.invariant in
    let f = sym (c.does_follow.ensures ∙ ap₂ (λ (y : ℤ) (l : List ℤ). follows y k.end (step_from l)) (rd c.ranges.profile) (rest-is s.steps.now (13 * k.i))) ∙ c.if-not-does_follow.true in
    ends_there s.profile s.steps.now c.requires k.i c.loop-i-test.true k.end _ rest f

pub loop-i-preserved : goal.loop-i-preserved
loop-i-preserved c =
    let s = c.args in
    let k = c.loop-i in
    let rest = subst (Decides k.end k.i s.steps.now) (rd c.ranges.profile) k.invariant in
    let f = sym (c.does_follow.ensures ∙ ap₂ (λ (y : ℤ) (l : List ℤ). follows y k.end (step_from l)) (rd c.ranges.profile) (rest-is s.steps.now (13 * k.i))) ∙ c.if-not-does_follow.false in
    subst⁻¹ (Decides c.after_at-end.result (k.i + 1) s.steps.now) (rd c.ranges.profile)
    (ap (λ (r : Realization). all_follow s.profile r (drop (k.i + 1) (steps_in s.steps.now))) c.after_at-end.ensures
    ∙ goes_on s.profile s.steps.now c.requires k.i c.loop-i-test.true k.end _ rest f)

pub returns : goal.returns
unfolding all_follow
returns c =
    let s = c.args in
    let k = c.loop-i in
    let rest = subst (Decides k.end k.i s.steps.now) (rd c.ranges.profile) k.invariant in
    let n = length s.steps.now / 13 in
    let last : k.i ≡ n = omega (arith, k.auto.i-end, c.loop-i-test.false) in
    let none : drop k.i (steps_in s.steps.now) ≡ [] = ap (λ (j : ℕ). drop j (steps_in s.steps.now)) last ∙ none_left (eight_from s.steps.now) n in
    ap (all_follow s.profile k.end) (sym none) ∙ rest
