-- `angle::from_xyz::height_at` meets its contract: the formulas are the written ones. Assumes nothing.
use lib.Ieee.{of_bits, round}
use Rattle.angle.specs.Geodetic.{height_of}
use Rattle.angle.proofs.from_xyz.height_at.Goals as goal

pub returns : goal.returns
unfolding height_of round of_bits
returns c = rw (c.prime_vertical-nu.ensures, c.cosine-c.ensures, c.sine-s.ensures)
