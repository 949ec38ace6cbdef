-- `angle::ellipsoids::terms_from` meets its contract: each literal is the f64 of the printed number, which antt computes. Assumes nothing.
use mathlib.Core.Path.{refl}
use lib.Ieee.{of_bits, round}
use Rattle.angle.specs.Terms.{terms_of}
use Rattle.angle.proofs.ellipsoids.terms_from.Goals as goal

pub returns : goal.returns
unfolding terms_of round of_bits
returns c = refl
