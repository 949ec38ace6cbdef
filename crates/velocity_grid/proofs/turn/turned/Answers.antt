-- `velocity_grid::turn::turned` meets its contract: the matrix in the order written. Assumes nothing.
use mathlib.Core.Path.{refl}
use Rattle.velocity_grid.specs.Turn.{turned_by}
use Rattle.velocity_grid.proofs.turn.turned.Goals as goal

pub returns : goal.returns
unfolding turned_by
returns c = refl
