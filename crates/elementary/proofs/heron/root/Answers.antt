-- `elementary::heron::root` meets its contract: each literal is the f64 nearest to its fraction, which antt computes. Assumes nothing.
use mathlib.Core.Path.{refl}
use lib.Ieee.{of_bits, round}
use Rattle.elementary.specs.Root.{root_of}
use Rattle.elementary.proofs.heron.root.Goals as goal

pub returns : goal.returns
unfolding root_of round of_bits
returns c = refl
