-- `elementary::series::cosine` meets its contract. Assumes nothing.
use Rattle.elementary.specs.Series.{cosine_of}
use Rattle.elementary.proofs.series.cosine.Goals as goal

pub returns : goal.returns
unfolding cosine_of
returns c = rw (c.polynomial.ensures, c.cosine_table-t.ensures)
