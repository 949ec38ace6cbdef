-- `angle::geodetic::in_units` meets its contract: each rounding's answer is the definition's. Assumes nothing.
use borrow.Author.Rules.{rules}
use mir.Syntax.{w64}
use mir.Val.{SFits}
use mir.ValLaws.{to_z-of_z}
use Rattle.angle.specs.Cartesian.{in_units}
use Rattle.angle.proofs.Exits.{told-is}
use Rattle.angle.proofs.geodetic.in_units.Goals as goal

pub returns-in_err-x : goal.returns-in_err-x
unfolding in_units
returns-in_err-x c = rw (← c.in_err-x.ensures) (told-is c.from_residual.result _ c.from_residual.ensures.1)

pub returns-in_err-y : goal.returns-in_err-y
unfolding in_units
returns-in_err-y c = rw (← c.in_ok-x.ensures, ← c.in_err-y.ensures) (told-is c.from_residual-in_err-y.result _ c.from_residual-in_err-y.ensures.1)

pub returns-in_err-z : goal.returns-in_err-z
unfolding in_units
returns-in_err-z c = rw (← c.in_ok-x.ensures, ← c.in_ok-y.ensures, ← c.in_err-z.ensures) (told-is c.from_residual-in_err-z.result _ c.from_residual-in_err-z.ensures.1)

pub returns : goal.returns
unfolding in_units
returns c =
    let x : SFits w64 c.in_ok-x.x = search rules in
    let y : SFits w64 c.in_ok-y.y = search rules in
    let z : SFits w64 c.in_ok-z.z = search rules in
    rw (← c.in_ok-x.ensures, ← c.in_ok-y.ensures, ← c.in_ok-z.ensures, to_z-of_z w64 _ x, to_z-of_z w64 _ y, to_z-of_z w64 _ z)
