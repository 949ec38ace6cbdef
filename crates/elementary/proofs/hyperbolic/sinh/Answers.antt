-- `elementary::hyperbolic::sinh` meets its contract. Assumes nothing.
use Rattle.elementary.specs.Hyperbolic.{sinh_of}
use Rattle.elementary.proofs.hyperbolic.sinh.Goals as goal

pub returns : goal.returns
unfolding sinh_of
returns c = rw (c.polynomial.ensures, c.sine_table-t.ensures)
