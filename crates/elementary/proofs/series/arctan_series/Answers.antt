-- `elementary::series::arctan_series` meets its contract. Assumes nothing.
use Rattle.elementary.specs.Hyperbolic.{arctan_series_of}
use Rattle.elementary.proofs.series.arctan_series.Goals as goal

pub returns : goal.returns
unfolding arctan_series_of
returns c = rw (c.polynomial.ensures, c.arctan_table-t.ensures)
