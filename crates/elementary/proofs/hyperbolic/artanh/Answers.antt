-- `elementary::hyperbolic::artanh` meets its contract: the formula is the written one. Assumes nothing.
use lib.Ieee.{of_bits, round}
use Rattle.elementary.specs.Hyperbolic.{artanh_of}
use Rattle.elementary.proofs.hyperbolic.artanh.Goals as goal

pub returns : goal.returns
unfolding artanh_of round of_bits
returns c = rw (c.artanh_small.ensures, c.root.ensures)
