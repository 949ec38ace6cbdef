-- `chain::lent::does_follow` meets its contract: past the two tests that come first, the kind decides, between what was read. Assumes nothing.
use mathlib.Core.Path.{◌≡◌, sym, ◌∙◌, ap, ap₂}
use mathlib.Core.Bool.{true, ◌&&◌}
use native.Mathlib.Omega.{arith}
use Rattle.rounding.proofs.Machine.{rd}
use Rattle.chain.specs.Faults.{same_realization}
use Rattle.chain.specs.Numbers.{step_from, dated, follows}
use Rattle.chain.proofs.Within.{one_place}
use Rattle.chain.proofs.lent.does_follow.Goals as goal

pub returns-then-not-eq-is_dated : goal.returns-then-not-eq-is_dated
unfolding follows
returns-then-not-eq-is_dated c = let e = one_place c.args.end c.before_in-before.result c.eq.result c.eq.ensures in grind (arith, e)

pub returns : goal.returns
unfolding follows step_from
returns c =
    let s = c.args in
    let step = step_from s.n.now in
    let y = rd c.ranges.profile in
    let r = c.before_in-before.ensures in
    let a = c.after_in-after.ensures in
    let e = sym (one_place s.end c.before_in-before.result c.eq.result c.eq.ensures) ∙ ap (same_realization s.end) r in
    let t : (same_realization s.end step.before && dated s.profile step.after) ≡ true = sym (ap₂ ◌&&◌ e (c.is_dated.ensures ∙ ap₂ dated y a)) ∙ c.if-not-eq-is_dated.false in
    rw t (c.is_good_kind.ensures ∙ (rw (y, r, a)))
