-- `line::form::five` meets its contract. Assumes nothing.
use Rattle.std.proofs.Common.{◌≡◌, w64, to_z, of_z, rules}
use Rattle.line.specs.Forms.{five_form}
use Rattle.line.proofs.InARow.{five-after}
use Rattle.line.proofs.form.five.Goals as goal

pub returns : goal.returns
unfolding five_form
returns g c image of made on =
    let m = c.number-v in
    let n = c.number-w in
    let o = c.number-x in
    let i = c.number-y in
    let j = c.number-z in
    let ev : to_z w64 (of_z w64 m.result.value) ≡ m.result.value = search rules in
    let ew : to_z w64 (of_z w64 n.result.value) ≡ n.result.value = search rules in
    let ex : to_z w64 (of_z w64 o.result.value) ≡ o.result.value = search rules in
    let ey : to_z w64 (of_z w64 i.result.value) ≡ i.result.value = search rules in
    let ez : to_z w64 (of_z w64 j.result.value) ≡ j.result.value = search rules in
    let e = made _ _ _ _ _ _ (search rules) (search rules) (search rules) (search rules) (search rules) c.make.ensures in
    rw e (five-after of of on c.letter-at.ensures m.ensures n.ensures o.ensures i.ensures j.ensures ev ew ex ey ez)
