-- `angle::projection::lay` meets its contract: each literal is the f64 of the printed number, which antt computes. Assumes nothing.
use mathlib.Core.Path.{refl}
use lib.Ieee.{of_bits, round}
use Rattle.angle.specs.Cassini.{cassini_with}
use Rattle.angle.specs.Terms.{terms_of}
use Rattle.angle.proofs.projection.lay.Goals as goal

pub returns : goal.returns
unfolding cassini_with terms_of round of_bits
returns c = rw (c.args.k.own, c.requires) refl
