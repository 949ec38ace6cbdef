-- `elementary::half::arcsine` meets its contract: the formula is the written one. Assumes nothing.
use lib.Ieee.{of_bits, round}
use Rattle.elementary.specs.Half.{arcsine_of}
use Rattle.elementary.proofs.half.arcsine.Goals as goal

pub returns : goal.returns
unfolding arcsine_of round of_bits
returns c = rw (c.arctan_small.ensures, c.root.ensures)
