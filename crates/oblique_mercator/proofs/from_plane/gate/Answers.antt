-- `oblique_mercator::from_plane::gate` meets its contract: the formulas are the written ones, and each literal is the f64 of its number, which antt computes. Assumes nothing.
use mathlib.Core.Path.{refl}
use lib.Ieee.{neg, of_bits, round}
use Rattle.oblique_mercator.specs.Reverse.{gate_of}
use Rattle.oblique_mercator.proofs.from_plane.gate.Goals as goal

pub returns : goal.returns
unfolding gate_of neg round of_bits
returns c = refl
