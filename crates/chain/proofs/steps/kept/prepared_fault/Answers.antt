-- `chain::steps::kept::prepared_fault` meets its contract: the tests in the order of the definition. Assumes nothing.
use mathlib.Core.Path.{sym, ◌∙◌, ap, ap₂}
use mathlib.Core.Bool.{◌||◌}
use lib.IntN.{ℤ, pos}
use Rattle.rounding.proofs.Machine.{rd}
use Rattle.ranges.specs.Ranges.{within, equal}
use Rattle.chain.proofs.Within.{one_place}
use Rattle.chain.proofs.steps.kept.prepared_fault.Goals as goal

pub returns-then-not-equal-eq : goal.returns-then-not-equal-eq
returns-then-not-equal-eq c =
    let s = c.args in
    let w = sym (c.within.ensures ∙ ap (λ (z : ℤ). within (pos 0) z (pos 8)) (rd c.ranges.n)) ∙ c.if-not-within.false in
    let e = sym (ap₂ ◌||◌ (c.equal.ensures ∙ ap (equal (pos 0)) (rd c.ranges.n)) (sym (one_place s.point.realization s.wanted c.eq.result c.eq.ensures))) ∙ c.if-not-equal-eq.true in
    rw (w, e)

pub returns-then-not-in_area : goal.returns-then-not-in_area
returns-then-not-in_area c =
    let s = c.args in
    let w = sym (c.within.ensures ∙ ap (λ (z : ℤ). within (pos 0) z (pos 8)) (rd c.ranges.n)) ∙ c.if-not-within.false in
    let e = sym (ap₂ ◌||◌ (c.equal.ensures ∙ ap (equal (pos 0)) (rd c.ranges.n)) (sym (one_place s.point.realization s.wanted c.eq.result c.eq.ensures))) ∙ c.if-not-equal-eq.false in
    let a = sym c.in_area.ensures ∙ c.if-not-in_area.true in
    rw (w, e, a)

pub returns : goal.returns
returns c =
    let s = c.args in
    let w = sym (c.within.ensures ∙ ap (λ (z : ℤ). within (pos 0) z (pos 8)) (rd c.ranges.n)) ∙ c.if-not-within.false in
    let e = sym (ap₂ ◌||◌ (c.equal.ensures ∙ ap (equal (pos 0)) (rd c.ranges.n)) (sym (one_place s.point.realization s.wanted c.eq.result c.eq.ensures))) ∙ c.if-not-equal-eq.false in
    let a = sym c.in_area.ensures ∙ c.if-not-in_area.false in
    rw (w, e, a)
