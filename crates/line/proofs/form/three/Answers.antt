-- `line::form::three` meets its contract. Assumes nothing.
use Rattle.std.proofs.Common.{◌≡◌, w64, to_z, of_z, rules}
use Rattle.line.specs.Forms.{three_form}
use Rattle.line.proofs.InARow.{three-tail}
use Rattle.line.proofs.form.three.Goals as goal

pub returns : goal.returns
unfolding three_form
returns g c image of made on =
    let m = c.number-first in
    let n = c.number-second in
    let o = c.number-third in
    let ex : to_z w64 (of_z w64 m.result.value) ≡ m.result.value = search rules in
    let ey : to_z w64 (of_z w64 n.result.value) ≡ n.result.value = search rules in
    let ez : to_z w64 (of_z w64 o.result.value) ≡ o.result.value = search rules in
    let e = made _ _ _ _ (search rules) (search rules) (search rules) c.make.ensures in
    rw e (three-tail of of on m.ensures n.ensures o.ensures ex ey ez)
