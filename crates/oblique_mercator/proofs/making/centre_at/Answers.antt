-- `oblique_mercator::making::centre_at` meets its contract: the formulas are the written ones, and each literal is the f64 of its number, which antt computes. Assumes nothing.
use lib.Ieee.{of_bits, round}
use Rattle.oblique_mercator.specs.Projection.{centre_of}
use Rattle.oblique_mercator.proofs.making.centre_at.Goals as goal

pub returns : goal.returns
unfolding centre_of round of_bits
returns c = cc
