-- `oblique_mercator::making::series_of` meets its contract: the formulas are the written ones, and each literal is the f64 of its number, which antt computes. Assumes nothing.
use mathlib.Core.Path.{refl}
use lib.Ieee.{of_bits, round}
use Rattle.oblique_mercator.specs.Projection.{series_of}
use Rattle.oblique_mercator.proofs.making.series_of.Goals as goal

pub returns : goal.returns
unfolding series_of round of_bits
returns c = refl
