-- `oblique_mercator::making::isometric` meets its contract: the formulas are the written ones, and each literal is the f64 of its number, which antt computes. Assumes nothing.
use Rattle.oblique_mercator.specs.Projection.{isometric_of}
use Rattle.oblique_mercator.proofs.making.isometric.Goals as goal

pub returns : goal.returns
unfolding isometric_of
returns c = cc
