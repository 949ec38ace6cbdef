-- `oblique_mercator::from_plane::find` meets its contract: the formulas are the written ones, and each literal is the f64 of its number, which antt computes. Assumes nothing.
use lib.Ieee.{of_bits, round}
use Rattle.oblique_mercator.specs.Reverse.{found_of}
use Rattle.angle.proofs.UnitLaws.{seconds-is}
use Rattle.oblique_mercator.proofs.from_plane.find.Goals as goal

pub returns : goal.returns
unfolding found_of round of_bits
returns c = let e = seconds-is in cc
