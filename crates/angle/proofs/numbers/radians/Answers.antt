-- `angle::numbers::radians` meets its contract: the literal is the f64 nearest to the decimal, which antt computes. Assumes nothing.
use mathlib.Core.Path.{refl}
use lib.Ieee.{of_bits, round}
use Rattle.angle.specs.Units.{k}
use Rattle.angle.proofs.numbers.radians.Goals as goal

pub returns : goal.returns
unfolding k round of_bits
returns c = refl
