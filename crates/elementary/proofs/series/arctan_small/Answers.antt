-- `elementary::series::arctan_small` meets its contract. Assumes nothing.
use Rattle.elementary.specs.Hyperbolic.{arctan_series_of}
use Rattle.elementary.specs.Series.{arctan_small_of}
use Rattle.elementary.proofs.series.arctan_small.Goals as goal

pub returns : goal.returns
unfolding arctan_small_of arctan_series_of
returns c = rw c.arctan_series.ensures
