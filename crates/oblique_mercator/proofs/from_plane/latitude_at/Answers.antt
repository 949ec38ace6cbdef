-- `oblique_mercator::from_plane::latitude_at` meets its contract: the formulas are the written ones, and each literal is the f64 of its number, which antt computes. Assumes nothing.
use lib.Ieee.{of_bits, round}
use Rattle.oblique_mercator.specs.Reverse.{latitude_of}
use Rattle.oblique_mercator.proofs.from_plane.latitude_at.Goals as goal

pub returns : goal.returns
unfolding latitude_of round of_bits
returns c = cc
