-- `oblique_mercator::making::natural_at` meets its contract: the formulas are the written ones, and each literal is the f64 of its number, which antt computes. Assumes nothing.
use lib.Ieee.{of_bits, round}
use Rattle.oblique_mercator.specs.Projection.{natural_of}
use Rattle.oblique_mercator.proofs.making.natural_at.Goals as goal

pub returns : goal.returns
unfolding natural_of round of_bits
returns c = cc
