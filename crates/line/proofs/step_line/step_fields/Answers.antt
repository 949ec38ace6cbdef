-- `line::step_line::step_fields` meets its contract. Assumes nothing.
use Rattle.std.proofs.Common.{◌≡◌, ◌∙◌, w64, to_z, of_z}
use Rattle.line.proofs.Places.{told}
use Rattle.line.proofs.Walk as W
use Rattle.line.specs.Forms.{step_form, step_of}
use Rattle.line.proofs.step_line.step_fields.Goals as goal

pub returns : goal.returns
unfolding step_form
returns c =
    let n1 = c.kind_letter-l in
    let n2 = c.number-datum in
    let n3 = c.number-epoch in
    let n4 = c.number-datum_after in
    let n5 = c.number-epoch_after in
    let t = c.kind_fields-k.ensures in
    let e2 : to_z w64 (of_z w64 n2.result.value) ≡ n2.result.value = told n2.type_inv.1.1.0.1 in
    let e3 : to_z w64 (of_z w64 n3.result.value) ≡ n3.result.value = told n3.type_inv.1.1.0.1 in
    let e4 : to_z w64 (of_z w64 n4.result.value) ≡ n4.result.value = told n4.type_inv.1.1.0.1 in
    let e5 : to_z w64 (of_z w64 n5.result.value) ≡ n5.result.value = told n5.type_inv.1.1.0.1 in
    let l4 = W.lost-on n5.ensures t.lost in
    let l3 = W.lost-on n4.ensures l4 in
    let l2 = W.lost-on n3.ensures l3 in
    let l1 = W.lost-on n2.ensures l2 in
    let l0 = W.lost-on n1.ensures l1 in
    W.more c.letter-at.ensures l0 λ _ _ _.
    W.more n1.ensures l1 λ z1 q1 _.
    W.more n2.ensures l2 λ z2 q2 _.
    W.more n3.ensures l3 λ z3 q3 _.
    W.more n4.ensures l4 λ z4 q4 _.
    W.more n5.ensures t.lost λ z5 q5 b.
    W.told-into (step_of (record { datum = z2; epoch = z3 }) (record { datum = z4; epoch = z5 })) (rw q1 at (t.told b)) λ k q.
    rw (q, e2 ∙ q2, e3 ∙ q3, e4 ∙ q4, e5 ∙ q5)
