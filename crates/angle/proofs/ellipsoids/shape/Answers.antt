-- `angle::ellipsoids::shape` meets its contract: each literal is the f64 of its number, which antt computes. Assumes nothing.
use mathlib.Core.Path.{refl}
use lib.Ieee.{of_bits, round}
use Rattle.angle.specs.Ellipsoids.{shape}
use Rattle.angle.proofs.ellipsoids.shape.Goals as goal

pub returns : goal.returns
unfolding shape round of_bits
returns c = refl
