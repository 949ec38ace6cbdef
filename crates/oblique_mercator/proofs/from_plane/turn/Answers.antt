-- `oblique_mercator::from_plane::turn` meets its contract: the formulas are the written ones, and each literal is the f64 of its number, which antt computes. Assumes nothing.
use mathlib.Core.Path.{refl}
use Rattle.oblique_mercator.specs.Reverse.{turned_of}
use Rattle.oblique_mercator.proofs.from_plane.turn.Goals as goal

pub returns : goal.returns
unfolding turned_of
returns c = refl
