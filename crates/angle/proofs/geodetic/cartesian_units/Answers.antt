-- `angle::geodetic::cartesian_units` meets its contract: what `cartesian_metres` answers, in units. Assumes nothing.
use mathlib.Core.Path.{◌≡◌, ap, ◌∙◌}
use lib.IntN.{ℤ}
use mir.Syntax.{w64}
use mir.Val.{SFits, to_z, of_z}
use mir.ValLaws.{to_z-of_z}
use Rattle.angle.specs.Cartesian.{cartesian_of, in_units, cartesian_units_of}
use Rattle.angle.proofs.Exits.{told-is}
use Rattle.angle.proofs.geodetic.cartesian_units.Goals as goal

read : (z lat lon h : ℤ) → SFits w64 z → SFits w64 lat → SFits w64 lon → SFits w64 h
    → cartesian_of (to_z w64 (of_z w64 z)) (to_z w64 (of_z w64 lat)) (to_z w64 (of_z w64 lon)) (to_z w64 (of_z w64 h)) ≡ cartesian_of z lat lon h
read z lat lon h a b c d = rw (to_z-of_z w64 z a, to_z-of_z w64 lat b, to_z-of_z w64 lon c, to_z-of_z w64 h d)

pub returns-in_err-cartesian_metres : goal.returns-in_err-cartesian_metres
unfolding in_units cartesian_units_of
returns-in_err-cartesian_metres c =
    let a = c.args in
    let r = c.ranges in
    told-is c.from_residual.result _ c.from_residual.ensures.1
    ∙ ap in_units (c.in_err-cartesian_metres.ensures ∙ read a.code a.latitude a.longitude a.height r.code r.latitude r.longitude r.height)

pub returns : goal.returns
unfolding cartesian_units_of
returns c =
    let a = c.args in
    let r = c.ranges in
    c.in_units.ensures ∙ ap in_units (c.in_ok-cartesian_metres.ensures ∙ read a.code a.latitude a.longitude a.height r.code r.latitude r.longitude r.height)
