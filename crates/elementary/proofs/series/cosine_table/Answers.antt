-- `elementary::series::cosine_table` meets its contract: the products and quotients are the coefficients, which antt computes. Assumes nothing.
use lib.Ieee.{mul, div, neg, round, of_bits}
use Rattle.elementary.proofs.Same.{sames-are}
use Rattle.elementary.proofs.series.cosine_table.Goals as goal

pub returns : goal.returns
unfolding mul div neg round of_bits
returns c = sames-are _ _ tt
