-- `angle::projection::cassini_millimetres` meets its contract: a made origin is the one that was asked. Assumes nothing.
use mathlib.Core.Path.{sym, ap₂, ◌∙◌}
use mir.Syntax.{w64}
use mir.ValLaws.{to_z-of_z}
use Rattle.angle.specs.Cassini.{cassini_millimetres_from_of}
use Rattle.angle.proofs.Exits.{told-is}
use Rattle.angle.proofs.Made.{by-refusal-millimetres, by-origin-millimetres}
use Rattle.angle.proofs.projection.cassini_millimetres.Goals as goal

pub returns-in_err-make_origin : goal.returns-in_err-make_origin
returns-in_err-make_origin c =
    let a = c.args in
    told-is c.from_residual.result _ c.from_residual.ensures.1 ∙ by-refusal-millimetres a.o a.latitude a.longitude _ (sym c.in_err-make_origin.ensures)

pub returns : goal.returns
returns c =
    let a = c.args in
    let x = c.in_ok-make_origin.field-0 in
    c.cassini_millimetres_from.ensures
    ∙ ap₂ (cassini_millimetres_from_of x) (to_z-of_z w64 a.latitude c.ranges.latitude) (to_z-of_z w64 a.longitude c.ranges.longitude)
    ∙ by-origin-millimetres a.o a.latitude a.longitude x (sym c.in_ok-make_origin.ensures)
