-- `angle::projection::project` meets its contract: over what the ellipsoid and the latitude decide, the formulas are the printed ones. Assumes nothing.
use borrow.Author.Rules.{rules}
use mathlib.Core.Path.{ap, ap₂, ◌∙◌}
use lib.IntN.{ℤ, ◌-ℤ◌}
use mir.Syntax.{w64}
use mir.Val.{SFits}
use mir.ValLaws.{to_z-of_z}
use Rattle.angle.specs.Units.{radians}
use Rattle.angle.specs.Ellipsoids.{meridian_arc}
use Rattle.angle.specs.Terms.{parallel_of}
use Rattle.angle.specs.declared.Ellipsoid.{Ellipsoid}
use Rattle.angle.proofs.Arcs.{at-is}
use Rattle.angle.proofs.projection.project.Goals as goal

pub returns : goal.returns
returns c =
    let o = c.args.o in
    let lat = c.args.latitude.units in
    let lon = c.args.longitude in
    let p = c.parallel_at-p.result in
    let f : SFits w64 o.longitude = search rules in
    c.lay.ensures
    ∙ at-is o lat lon p c.meridian_arc-m.result c.apart_radians-difference.result
    (c.parallel_at-p.ensures ∙ ap (λ (e : Ellipsoid). parallel_of e lat) c.requires.0)
    (c.meridian_arc-m.ensures ∙ ap (λ (e : Ellipsoid). meridian_arc e p.phi) c.requires.0)
    (c.apart_radians-difference.ensures ∙ ap₂ (λ (x y : ℤ). radians (x -ℤ y)) (to_z-of_z w64 lon c.ranges.longitude) (to_z-of_z w64 o.longitude f))
