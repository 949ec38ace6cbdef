-- `angle::projection::in_millimetres` meets its contract: each rounding's answer is the definition's. Assumes nothing.
use borrow.Author.Rules.{rules}
use mir.Syntax.{w64}
use mir.Val.{SFits}
use mir.ValLaws.{to_z-of_z}
use Rattle.angle.specs.Cassini.{in_millimetres}
use Rattle.angle.proofs.Exits.{told-is}
use Rattle.angle.proofs.projection.in_millimetres.Goals as goal

pub returns-in_err-easting : goal.returns-in_err-easting
unfolding in_millimetres
returns-in_err-easting c = rw (← c.in_err-easting.ensures) (told-is c.from_residual.result _ c.from_residual.ensures.1)

pub returns-in_err-northing : goal.returns-in_err-northing
unfolding in_millimetres
returns-in_err-northing c =
    rw (← c.in_ok-easting.ensures, ← c.in_err-northing.ensures) (told-is c.from_residual-in_err-northing.result _ c.from_residual-in_err-northing.ensures.1)

pub returns : goal.returns
unfolding in_millimetres
returns c =
    let x : SFits w64 c.in_ok-easting.easting = search rules in
    let y : SFits w64 c.in_ok-northing.northing = search rules in
    rw (← c.in_ok-easting.ensures, ← c.in_ok-northing.ensures, to_z-of_z w64 _ x, to_z-of_z w64 _ y)
