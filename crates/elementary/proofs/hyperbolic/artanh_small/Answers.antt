-- `elementary::hyperbolic::artanh_small` meets its contract. Assumes nothing.
use Rattle.elementary.specs.Hyperbolic.{artanh_small_of}
use Rattle.elementary.proofs.hyperbolic.artanh_small.Goals as goal

pub returns : goal.returns
unfolding artanh_small_of
returns c = rw c.arctan_series.ensures
