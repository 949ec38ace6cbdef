-- `velocity_grid::at_point::parts_in` meets its contract. Assumes nothing.
use borrow.Author.Rules.{rules}
use mathlib.Core.Path.{◌∙◌}
use Rattle.rounding.proofs.Machine.{rd}
use Rattle.velocity_grid.specs.AtPoint.{parts_in}
use Rattle.velocity_grid.proofs.at_point.parts_in.Goals as goal

pub returns : goal.returns
unfolding parts_in
returns c =
    let c2 = c in
    rw
    (rd (record { sfits = c2.part-east.type_inv }) ∙ c2.part-east.ensures, rd (record { sfits = c.part-north.type_inv }) ∙ c.part-north.ensures, rd (record { sfits = c.part-up.type_inv }) ∙ c.part-up.ensures)
