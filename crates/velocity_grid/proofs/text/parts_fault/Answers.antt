-- `velocity_grid::text::parts_fault` meets its contract: three numbers, each in the range. Assumes nothing.
use borrow.Author.Rules.{rules}
use mathlib.Core.Bool.{Bool, ◌&&◌}
use mathlib.Core.Path.{◌≡◌, sym}
use lib.IntN.{ℤ}
use mir.Syntax.{w64}
use mir.Val.{SFits}
use mir.ValLaws.{to_z-of_z}
use Rattle.line.specs.declared.VelocityParts.{VelocityParts}
use Rattle.velocity_grid.specs.AtPoint.{part_range}
use Rattle.velocity_grid.specs.Text.{parts_range, node_fault}
use Rattle.velocity_grid.proofs.text.parts_fault.Goals as goal

tested : (p : VelocityParts) {t : Bool} {x y z : ℤ} → t ≡ (part_range x && part_range y && part_range z) → x ≡ p.east → y ≡ p.north → z ≡ p.up → parts_range p ≡ t
unfolding parts_range
tested p e a b c = rw (sym a, sym b, sym c) (sym e)

pub returns-then-three_within : goal.returns-then-three_within
unfolding node_fault
returns-then-three_within c =
    let p = c.args.p in
    let x : SFits w64 p.east = search rules in
    let y : SFits w64 p.north = search rules in
    let z : SFits w64 p.up = search rules in
    rw (tested p c.if-three_within.ensures (to_z-of_z w64 _ x) (to_z-of_z w64 _ y) (to_z-of_z w64 _ z))

pub returns : goal.returns
unfolding node_fault
returns c =
    let p = c.args.p in
    let x : SFits w64 p.east = search rules in
    let y : SFits w64 p.north = search rules in
    let z : SFits w64 p.up = search rules in
    rw (tested p c.if-three_within.ensures (to_z-of_z w64 _ x) (to_z-of_z w64 _ y) (to_z-of_z w64 _ z))
