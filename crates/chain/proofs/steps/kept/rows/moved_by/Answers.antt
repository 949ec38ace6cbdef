-- `chain::steps::kept::rows::moved_by` meets its contract: the form decides. Assumes nothing.
use Rattle.std.proofs.Common.{◌≡◌, true, false, sym, ◌∙◌, ap, ℤ, pos, to_z, of_z, w64}
use Rattle.ranges.specs.Ranges.{within, equal}
use Rattle.rounding.proofs.Machine.{rd}
use Rattle.chain.specs.declared.steps.Ready.TheVariants.{Turned}
use Rattle.chain.specs.Prepared.{form_range}
use Rattle.chain.proofs.Forms.{by_form}
use Rattle.chain.proofs.steps.kept.rows.moved_by.Goals as goal

pub returns-then-equal-2 : goal.returns-then-equal-2
returns-then-equal-2 c =
    let x = c.args in
    let r = c.ranges in
    let read : ℤ → ℤ = λ z. to_z w64 (of_z w64 z) in
    let formed : form_range x.form ≡ true = sym (c.within.ensures ∙ ap (λ (z : ℤ). within (pos 0) z (pos 2)) (rd r.form)) ∙ c.if-not-within.false in
    let e : equal (pos 0) x.form ≡ false = sym (c.equal.ensures ∙ ap (equal (pos 0)) (rd r.form)) ∙ c.if-equal.false in
    let h : equal (pos 1) x.form ≡ true = sym (c.equal-2.ensures ∙ ap (equal (pos 1)) (rd r.form)) ∙ c.if-equal-2.true in
    by_form x.direction x.form x.a x.b x.c x.d x.e x.f x.g x.p c.turn_moved.result
    (Turned (record { dx = read x.a; dy = read x.b; dz = read x.c; rx = read x.d; ry = read x.e; rz = read x.f; s = read x.g }))
    (rw (e, h, rd r.a, rd r.b, rd r.c, rd r.d, rd r.e, rd r.f, rd r.g))
    formed
    c.turn_moved.ensures
