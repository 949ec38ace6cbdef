-- `angle::projection::cassini_millimetres_from` meets its contract: what `cassini_from` answers, in millimetres. Assumes nothing.
use mathlib.Core.Path.{ap, ap₂, ◌∙◌}
use mir.Syntax.{w64}
use mir.ValLaws.{to_z-of_z}
use Rattle.angle.specs.Cassini.{cassini_from_of, in_millimetres, cassini_millimetres_from_of}
use Rattle.angle.proofs.Exits.{told-is}
use Rattle.angle.proofs.projection.cassini_millimetres_from.Goals as goal

pub returns-in_err-cassini_from : goal.returns-in_err-cassini_from
unfolding in_millimetres cassini_millimetres_from_of
returns-in_err-cassini_from c =
    let a = c.args in
    told-is c.from_residual.result _ c.from_residual.ensures.1
    ∙ ap in_millimetres (c.in_err-cassini_from.ensures ∙ ap₂ (cassini_from_of a.origin) (to_z-of_z w64 a.latitude c.ranges.latitude) (to_z-of_z w64 a.longitude c.ranges.longitude))

pub returns : goal.returns
unfolding cassini_millimetres_from_of
returns c =
    let a = c.args in
    c.in_millimetres.ensures
    ∙ ap in_millimetres (c.in_ok-cassini_from.ensures ∙ ap₂ (cassini_from_of a.origin) (to_z-of_z w64 a.latitude c.ranges.latitude) (to_z-of_z w64 a.longitude c.ranges.longitude))
