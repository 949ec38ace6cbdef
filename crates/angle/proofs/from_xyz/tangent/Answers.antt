-- `angle::from_xyz::tangent` meets its contract: the formulas are the written ones. Assumes nothing.
use lib.Ieee.{of_bits, round}
use Rattle.angle.specs.Geodetic.{tangent_of}
use Rattle.angle.proofs.from_xyz.tangent.Goals as goal

pub returns : goal.returns
unfolding tangent_of round of_bits
returns c = rw c.root-cu.ensures
