-- `velocity_grid::nodes::cell_known` meets its contract: the four nodes. Assumes nothing.
use borrow.Author.Rules.{rules}
use mathlib.Core.Bool.{◌&&◌}
use mathlib.Core.Path.{ap₂}
use Rattle.velocity_grid.specs.AtPoint.{cell_known}
use Rattle.velocity_grid.proofs.nodes.cell_known.Goals as goal

pub returns : goal.returns
unfolding cell_known
returns c =
    let c2 = c in
    ap₂ ◌&&◌ (ap₂ ◌&&◌ (ap₂ ◌&&◌ c2.known.ensures c2.known-2.ensures) c.known-3.ensures) c.known-4.ensures
