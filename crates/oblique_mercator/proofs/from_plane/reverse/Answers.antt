-- `oblique_mercator::from_plane::reverse` meets its contract: the projection decides first, and then the point on it. Assumes nothing.
use Rattle.angle.proofs.Exits.{told-is}
use Rattle.oblique_mercator.specs.Reverse.{reverse_of}
use Rattle.oblique_mercator.proofs.from_plane.reverse.Goals as goal

pub returns-in_err-make_projection : goal.returns-in_err-make_projection
unfolding reverse_of
returns-in_err-make_projection c = rw (← c.in_err-make_projection.ensures) (told-is c.from_residual.result _ c.from_residual.ensures.1)

pub returns : goal.returns
unfolding reverse_of
returns c = rw (← c.in_ok-make_projection.ensures) c.reverse_from.ensures
