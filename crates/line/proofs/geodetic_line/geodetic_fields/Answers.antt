-- `line::geodetic_line::geodetic_fields` meets its contract. Assumes nothing.
use Rattle.std.proofs.Common.{◌≡◌, ◌∙◌, w64, to_z, of_z, rules}
use Rattle.line.proofs.Walk as W
use Rattle.line.specs.Forms.{geodetic_form}
use Rattle.line.proofs.geodetic_line.geodetic_fields.Goals as goal

pub returns : goal.returns
unfolding geodetic_form
returns c =
    let n1 = c.name-named in
    let n2 = c.number-latitude in
    let n3 = c.of_last_eleven-longitude in
    let e2 : to_z w64 (of_z w64 n2.result.value) ≡ n2.result.value = search rules in
    let e3 : to_z w64 (of_z w64 n3.result.value) ≡ n3.result.value = search rules in
    let l2 = W.lost n3.ensures in
    let l1 = W.lost-on n2.ensures l2 in
    let l0 = W.lost-on n1.ensures l1 in
    W.more c.letter-at.ensures l0 λ _ _ _.
    W.more n1.ensures l1 λ z1 q1 _.
    W.more n2.ensures l2 λ z2 q2 _.
    W.more n3.ensures (λ h. h) λ z3 q3 b.
    W.done (rw (q1, e2 ∙ q2, e3 ∙ q3)) b
