-- `lot_plan::chain_text::lot::write` meets its contract. Assumes nothing.
use borrow.Author.Rules.{rules}
use mathlib.Core.Path.{◌≡◌}
use mir.Syntax.{w64}
use mir.Val.{to_z, of_z}
use Rattle.lot_plan.proofs.Laws.{drawn}
use Rattle.lot_plan.proofs.chain_text.lot.write.Goals as goal

pub returns-in-Ok : goal.returns-in-Ok
returns-in-Ok c =
    let e : to_z w64 (of_z w64 c.in-Ok.lot.easting) ≡ c.in-Ok.lot.easting = search rules in
    let n : to_z w64 (of_z w64 c.in-Ok.lot.northing) ≡ c.in-Ok.lot.northing = search rules in
    let w = rw (e, n) at c.write_lot.ensures in
    rw c.in-Ok.is (drawn _ _ _ (search rules) (search rules) (search rules) (search rules) c.requires w)
