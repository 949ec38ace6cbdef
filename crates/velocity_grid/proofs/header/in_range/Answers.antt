-- `velocity_grid::header::in_range` meets its contract. Assumes nothing.
use borrow.Author.Rules.{rules}
use mathlib.Core.Path.{◌∙◌, ap, ap₂}
use mathlib.Core.Bool.{◌&&◌}
use Rattle.ranges.specs.Ranges.{latitude_range, longitude_range}
use Rattle.rounding.proofs.Machine.{told}
use Rattle.velocity_grid.specs.OnGrid.{size_range, mesh_range, grid_range}
use Rattle.velocity_grid.proofs.header.in_range.Goals as goal

pub returns : goal.returns
unfolding grid_range
returns c =
    let t = c.struct_told-5-1.given in
    let l = c in
    ap₂ ◌&&◌
    (ap₂ ◌&&◌
    (ap₂ ◌&&◌ (l.is_latitude.ensures ∙ ap latitude_range (told t.0.1)) (c.is_longitude.ensures ∙ ap longitude_range (told t.1.0.1)))
    (c.size_in_range.ensures ∙ ap₂ size_range (told t.1.1.0.1) (told t.1.1.1.0.1)))
    (c.is_mesh.ensures ∙ ap mesh_range (told t.1.1.1.1.0.1))
