-- `velocity_grid::nodes::corners` meets its contract: the four numbers. Assumes nothing.
use borrow.Author.Rules.{rules}
use mathlib.Core.Path.{◌∙◌}
use Rattle.rounding.proofs.Machine.{rd}
use Rattle.velocity_grid.specs.AtPoint.{corners_of}
use Rattle.velocity_grid.proofs.nodes.corners.Goals as goal

pub returns : goal.returns
unfolding corners_of
returns c =
    let c2 = c in
    rw (
      rd (record { sfits = c2.number.type_inv }) ∙ c2.number.ensures,
      rd (record { sfits = c2.number-2.type_inv }) ∙ c2.number-2.ensures,
      rd (record { sfits = c.number-3.type_inv }) ∙ c.number-3.ensures,
      rd (record { sfits = c.number-4.type_inv }) ∙ c.number-4.ensures,
    )
