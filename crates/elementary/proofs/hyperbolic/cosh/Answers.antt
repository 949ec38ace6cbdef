-- `elementary::hyperbolic::cosh` meets its contract. Assumes nothing.
use Rattle.elementary.specs.Hyperbolic.{cosh_of}
use Rattle.elementary.proofs.hyperbolic.cosh.Goals as goal

pub returns : goal.returns
unfolding cosh_of
returns c = rw (c.polynomial.ensures, c.cosine_table-t.ensures)
