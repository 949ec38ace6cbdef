-- `oblique_mercator::to_plane::forward` meets its contract: the projection decides first, and then the point on it. Assumes nothing.
use mathlib.Core.Path.{ap₂, ◌∙◌}
use mir.Syntax.{w64}
use mir.ValLaws.{to_z-of_z}
use Rattle.angle.proofs.Exits.{told-is}
use Rattle.oblique_mercator.specs.Forward.{forward_from_of, forward_of}
use Rattle.oblique_mercator.proofs.to_plane.forward.Goals as goal

pub returns-in_err-make_projection : goal.returns-in_err-make_projection
unfolding forward_of
returns-in_err-make_projection c = rw (← c.in_err-make_projection.ensures) (told-is c.from_residual.result _ c.from_residual.ensures.1)

pub returns : goal.returns
unfolding forward_of
returns c =
    let a = c.args in
    rw (← c.in_ok-make_projection.ensures)
    (c.forward_from.ensures ∙ ap₂ (forward_from_of c.in_ok-make_projection.field-0) (to_z-of_z w64 a.latitude c.ranges.latitude) (to_z-of_z w64 a.longitude c.ranges.longitude))
