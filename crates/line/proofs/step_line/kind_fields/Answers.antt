-- `line::step_line::kind_fields` meets its contract. Assumes nothing.
use Rattle.std.proofs.Common.{◌≡◌, refl, arith, ne_eqb}
use Rattle.line.specs.Forms.{frame_form}
use Rattle.line.proofs.Walk as W
use Rattle.line.proofs.step_line.kind_fields.Goals as goal

pub returns-in_default : goal.returns-in_default
unfolding frame_form
returns-in_default c =
    let l = c.args.letter in
    let t : l ≡ 84 → ⊥ = λ e. omega arith in
    let v : l ≡ 86 → ⊥ = λ e. omega arith in
    let b : l ≡ 66 → ⊥ = λ e. omega arith in
    rw (ne_eqb l 84 t, ne_eqb l 86 v, ne_eqb l 66 b) (record { told = λ h. W.done refl h; lost = λ h. h })
