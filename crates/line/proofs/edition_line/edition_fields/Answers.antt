-- `line::edition_line::edition_fields` meets its contract. Assumes nothing.
use Rattle.std.proofs.Common.{◌≡◌, ◌∙◌, w64, to_z, of_z, rules}
use Rattle.line.proofs.Walk as W
use Rattle.line.specs.Forms.{edition_form}
use Rattle.line.proofs.edition_line.edition_fields.Goals as goal

pub returns : goal.returns
unfolding edition_form
returns c =
    let n = c.number-year in
    let e : to_z w64 (of_z w64 n.result.value) ≡ n.result.value = search rules in
    W.more c.letter-at.ensures (W.lost n.ensures) λ _ _ _.
    W.more n.ensures (λ h. h) λ z q b.
    W.done (e ∙ q) b
