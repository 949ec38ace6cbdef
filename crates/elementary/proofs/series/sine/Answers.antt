-- `elementary::series::sine` meets its contract. Assumes nothing.
use Rattle.elementary.specs.Series.{sine_of}
use Rattle.elementary.proofs.series.sine.Goals as goal

pub returns : goal.returns
unfolding sine_of
returns c = rw (c.polynomial.ensures, c.sine_table-t.ensures)
