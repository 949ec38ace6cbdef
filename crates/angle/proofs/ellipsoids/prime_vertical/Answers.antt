-- `angle::ellipsoids::prime_vertical` meets its contract: each literal is the f64 nearest to its fraction, which antt computes. Assumes nothing.
use mathlib.Core.Path.{refl}
use lib.Ieee.{of_bits, round}
use Rattle.angle.specs.Ellipsoids.{prime_vertical}
use Rattle.angle.proofs.ellipsoids.prime_vertical.Goals as goal

pub returns : goal.returns
unfolding prime_vertical round of_bits
returns c = refl
