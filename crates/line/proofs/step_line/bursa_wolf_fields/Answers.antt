-- `line::step_line::bursa_wolf_fields` meets its contract. Assumes nothing.
use Rattle.std.proofs.Common.{◌≡◌, ap, ◌∙◌, w64, to_z, of_z}
use Rattle.line.proofs.Places.{told}
use Rattle.line.proofs.Walk as W
use Rattle.line.specs.Forms.{bursa_wolf_form, convention_of}
use Rattle.line.proofs.step_line.bursa_wolf_fields.Goals as goal

pub returns : goal.returns
unfolding bursa_wolf_form
returns c =
    let n1 = c.convention_letter-l in
    let n2 = c.number-dx in
    let n3 = c.number-dy in
    let n4 = c.number-dz in
    let n5 = c.number-rx in
    let n6 = c.number-ry in
    let n7 = c.number-rz in
    let n8 = c.number-scale in
    let e2 : to_z w64 (of_z w64 n2.result.value) ≡ n2.result.value = told n2.type_inv.1.1.0.1 in
    let e3 : to_z w64 (of_z w64 n3.result.value) ≡ n3.result.value = told n3.type_inv.1.1.0.1 in
    let e4 : to_z w64 (of_z w64 n4.result.value) ≡ n4.result.value = told n4.type_inv.1.1.0.1 in
    let e5 : to_z w64 (of_z w64 n5.result.value) ≡ n5.result.value = told n5.type_inv.1.1.0.1 in
    let e6 : to_z w64 (of_z w64 n6.result.value) ≡ n6.result.value = told n6.type_inv.1.1.0.1 in
    let e7 : to_z w64 (of_z w64 n7.result.value) ≡ n7.result.value = told n7.type_inv.1.1.0.1 in
    let e8 : to_z w64 (of_z w64 n8.result.value) ≡ n8.result.value = told n8.type_inv.1.1.0.1 in
    let l7 = W.lost n8.ensures in
    let l6 = W.lost-on n7.ensures l7 in
    let l5 = W.lost-on n6.ensures l6 in
    let l4 = W.lost-on n5.ensures l5 in
    let l3 = W.lost-on n4.ensures l4 in
    let l2 = W.lost-on n3.ensures l3 in
    let l1 = W.lost-on n2.ensures l2 in
    record {
      told = λ _.
          W.more n1.ensures l1 λ z1 q1 _.
          W.more n2.ensures l2 λ z2 q2 _.
          W.more n3.ensures l3 λ z3 q3 _.
          W.more n4.ensures l4 λ z4 q4 _.
          W.more n5.ensures l5 λ z5 q5 _.
          W.more n6.ensures l6 λ z6 q6 _.
          W.more n7.ensures l7 λ z7 q7 _.
          W.more n8.ensures (λ h. h) λ z8 q8 b.
          W.done (rw (c.convention_of-convention.ensures ∙ ap convention_of q1, e2 ∙ q2, e3 ∙ q3, e4 ∙ q4, e5 ∙ q5, e6 ∙ q6, e7 ∙ q7, e8 ∙ q8)) b;
      lost = W.lost-on n1.ensures l1;
    }
