-- `oblique_mercator::to_plane::plane` meets its contract: the formulas are the written ones, and each literal is the f64 of its number, which antt computes. Assumes nothing.
use Rattle.oblique_mercator.specs.Forward.{plane_of}
use Rattle.oblique_mercator.proofs.to_plane.plane.Goals as goal

pub returns : goal.returns
unfolding plane_of
returns c = rw (c.arctangent.ensures, c.artanh.ensures, c.cosine-cx.ensures, c.sine-sx.ensures, c.cosh-t.ensures, c.sinh-s.ensures, c.isometric-l.ensures, c.sine.ensures)
