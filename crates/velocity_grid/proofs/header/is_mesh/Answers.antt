-- `velocity_grid::header::is_mesh` meets its contract. Assumes nothing.
use borrow.Author.Rules.{rules}
use mathlib.Core.Path.{◌∙◌, ap, ap₂}
use mathlib.Core.Bool.{◌||◌}
use lib.IntN.{pos}
use Rattle.ranges.specs.Ranges.{equal}
use Rattle.rounding.proofs.Machine.{rd}
use Rattle.velocity_grid.specs.OnGrid.{mesh_range}
use Rattle.velocity_grid.proofs.header.is_mesh.Goals as goal

pub returns : goal.returns
unfolding mesh_range
returns c =
    let f = c.ranges.m in
    ap₂ ◌||◌ (c.equal.ensures ∙ ap (equal (pos 5)) (rd f)) (c.equal-2.ensures ∙ ap (equal (pos 10)) (rd f))
