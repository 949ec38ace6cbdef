-- `angle::ellipsoids::meridian_arc` meets its contract: the three sines, and the formula over them. Assumes nothing.
use lib.Ieee.{of_bits, round}
use Rattle.angle.specs.Ellipsoids.{meridian_arc}
use Rattle.angle.proofs.ellipsoids.meridian_arc.Goals as goal

pub returns : goal.returns
unfolding meridian_arc round of_bits
returns c = rw (c.arc_with.ensures, c.sine-s6.ensures, c.sine-s4.ensures, c.sine-s2.ensures)
