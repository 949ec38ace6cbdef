-- `capi::row::put_answer` meets its contract. Assumes nothing.
use borrow.Author.Rules.{rules}
use mir.Syntax.{w64}
use mir.Val.{SFits}
use mir.ValLaws.{to_z-of_z}
use Rattle.capi.specs.Chains.{point_numbers}
use Rattle.capi.proofs.row.put_answer.Goals as goal

pub returns-in-Ok : goal.returns-in-Ok
unfolding point_numbers
returns-in-Ok c =
    let p = c.in-Ok.p in
    let i : SFits w64 p.label.issue = search rules in
    let o : SFits w64 p.label.order = search rules in
    let d : SFits w64 p.realization.datum = search rules in
    let e : SFits w64 p.realization.epoch = search rules in
    let x : SFits w64 p.position.x = search rules in
    let y : SFits w64 p.position.y = search rules in
    let z : SFits w64 p.position.z = search rules in
    rw (c.copy-in-Ok.ensures, c.in-Ok.is, c.point_numbers.ensures, to_z-of_z w64 _ i, to_z-of_z w64 _ o, to_z-of_z w64 _ d, to_z-of_z w64 _ e, to_z-of_z w64 _ x, to_z-of_z w64 _ y, to_z-of_z w64 _ z)
