-- `angle::projection::latitude_radians` meets its contract: a latitude in its range is an f64 exactly. Assumes nothing.
use borrow.Author.Rules.{rules}
use mathlib.Core.Path.{◌≡◌}
use mir.Syntax.{w64}
use mir.Val.{SFits, to_z, of_z}
use mir.ValLaws.{to_z-of_z}
use Rattle.angle.specs.Units.{radians}
use Rattle.angle.proofs.Tests.{read_back}
use Rattle.ranges.proofs.Ranges.{natural}
use Rattle.angle.proofs.Wholes.{natural-upto, in-float}
use Rattle.angle.proofs.projection.latitude_radians.Goals as goal

pub int_to_float-latitude : goal.int_to_float-latitude
int_to_float-latitude c =
    let l = c.args.latitude in
    let f : SFits w64 l.units = search rules in
    read_back l.units f (in-float 2880000000 l.units tt (natural-upto (natural 0 l.units 2880000000 l.in_range)))

pub returns : goal.returns
unfolding radians
returns c =
    let l = c.args.latitude in
    let f : SFits w64 l.units = search rules in
    let z : to_z w64 (of_z w64 l.units) ≡ l.units = to_z-of_z w64 l.units f in
    cc
