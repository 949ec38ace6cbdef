-- `elementary::series::arctan_table` meets its contract: the quotients are the coefficients, which antt computes. Assumes nothing.
use lib.Ieee.{div, neg, round, of_bits}
use Rattle.elementary.proofs.Same.{sames-are}
use Rattle.elementary.proofs.series.arctan_table.Goals as goal

pub returns : goal.returns
unfolding div neg round of_bits
returns c = sames-are _ _ tt
