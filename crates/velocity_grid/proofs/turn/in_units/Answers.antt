-- `velocity_grid::turn::in_units` meets its contract: each rounding's answer is the definition's. Assumes nothing.
use borrow.Author.Rules.{rules}
use mir.Syntax.{w64}
use mir.Val.{SFits}
use mir.ValLaws.{to_z-of_z}
use Rattle.angle.proofs.Exits.{told-is}
use Rattle.velocity_grid.specs.Turn.{in_units}
use Rattle.velocity_grid.proofs.turn.in_units.Goals as goal

pub returns-in_err-vx : goal.returns-in_err-vx
unfolding in_units
returns-in_err-vx c = rw (← c.in_err-vx.ensures) (told-is c.from_residual.result _ c.from_residual.ensures.1)

pub returns-in_err-vy : goal.returns-in_err-vy
unfolding in_units
returns-in_err-vy c = rw (← c.in_ok-vx.ensures, ← c.in_err-vy.ensures) (told-is c.from_residual-in_err-vy.result _ c.from_residual-in_err-vy.ensures.1)

pub returns-in_err-vz : goal.returns-in_err-vz
unfolding in_units
returns-in_err-vz c =
    rw (← c.in_ok-vx.ensures, ← c.in_ok-vy.ensures, ← c.in_err-vz.ensures) (told-is c.from_residual-in_err-vz.result _ c.from_residual-in_err-vz.ensures.1)

pub returns : goal.returns
unfolding in_units
returns c =
    let x : SFits w64 c.in_ok-vx.vx = search rules in
    let y : SFits w64 c.in_ok-vy.vy = search rules in
    let z : SFits w64 c.in_ok-vz.vz = search rules in
    rw (← c.in_ok-vx.ensures, ← c.in_ok-vy.ensures, ← c.in_ok-vz.ensures, to_z-of_z w64 _ x, to_z-of_z w64 _ y, to_z-of_z w64 _ z)
