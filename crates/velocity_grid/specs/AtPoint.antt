-- East, north and up at a point of a velocity grid. The nodes are a list of three numbers each, east, north and up; a node whose numbers are not each within
-- 2,500 has no value.
use Rattle.std.specs.Prelude.{Bool, not, ◌&&◌, List, [], ◌∷◌, ◌++◌, ℕ, ◌+◌, ◌*◌, ◌≤◌, eqb, ℤ, pos, nat_abs, length, get_or, Result, Ok, Err}
use Rattle.refusal.specs.Numbers as refusal
use Rattle.refusal.specs.Order.{Test, ◌gives◌, first, unless}
use Rattle.ranges.specs.Ranges.{up_to}
use Rattle.angle.specs.Ranges.{angle_tests}
use Rattle.velocity_grid.specs.Bilinear.{bilinear}
use Rattle.velocity_grid.specs.OnGrid.{grid_range, nodes_of, on_grid, cell_of}
use Rattle.velocity_grid.specs.declared.Corners.{Corners}
use Rattle.line.specs.declared.GridHeader.{GridHeader}
use Rattle.velocity_grid.specs.declared.Cell.{Cell}
use Rattle.line.specs.declared.VelocityParts.{VelocityParts}

-- hundredths of a millimetre a year
abbrev pub part_range : ℤ → Bool
part_range = up_to 2500

-- ---- the nodes
-- part p of a node: 0 east, 1 north, 2 up
abbrev pub value_of : List ℤ → ℕ → ℕ → ℤ
value_of nodes p node = get_or nodes (3 * node + p) (pos 0)

unfoldable pub known : List ℤ → ℕ → Bool
known nodes node = part_range (value_of nodes 0 node) && part_range (value_of nodes 1 node) && part_range (value_of nodes 2 node)

-- a cell's nodes: its south-west one, the next to the east, and the two a row further north
unfoldable pub cell_known : List ℤ → Cell → Bool
unfolding known
cell_known nodes c = known nodes c.node && known nodes (c.node + 1) && known nodes (c.node + c.columns) && known nodes (c.node + c.columns + 1)

unfoldable pub corners_of : List ℤ → ℕ → Cell → Corners
corners_of nodes p c = record {
  south_west = value_of nodes p c.node;
  south_east = value_of nodes p (c.node + 1);
  north_west = value_of nodes p (c.node + c.columns);
  north_east = value_of nodes p (c.node + c.columns + 1);
}

-- ---- the three parts
unfoldable pub part_of : List ℤ → ℕ → Cell → ℤ
unfolding bilinear corners_of
part_of nodes p c = bilinear c.mesh c.east c.north (corners_of nodes p c)

unfoldable pub parts_in : List ℤ → Cell → VelocityParts
unfolding part_of
parts_in nodes c = record { east = part_of nodes 0 c; north = part_of nodes 1 c; up = part_of nodes 2 c }

-- refused: 2 for the header, 30 where numbers of nodes are missing or left over
abbrev pub grid_tests : GridHeader → List ℤ → List Test
grid_tests g nodes = (not (grid_range g) gives refusal.range) ∷ (not (eqb (length nodes) (3 * nodes_of g)) gives refusal.lines) ∷ []

-- 12 for the angles, then 24 off the grid or at a node without a value, also where its weight is 0
abbrev pub angles_and_cell_tests : GridHeader → List ℤ → ℤ → ℤ → List Test
angles_and_cell_tests g nodes latitude longitude =
    angle_tests latitude longitude
    ++ ((not (on_grid g latitude longitude) gives refusal.off_grid) ∷ (not (cell_known nodes (cell_of g latitude longitude)) gives refusal.off_grid) ∷ [])

abbrev pub parts_tests : GridHeader → List ℤ → ℤ → ℤ → List Test
parts_tests g nodes latitude longitude = grid_tests g nodes ++ angles_and_cell_tests g nodes latitude longitude

unfoldable pub parts_at : GridHeader → List ℤ → ℤ → ℤ → Result VelocityParts ℕ
unfolding parts_in cell_of
parts_at g nodes latitude longitude = unless (first (parts_tests g nodes latitude longitude)) Err (Ok (parts_in nodes (cell_of g latitude longitude)))

-- each within 2,500
pub record PartsOk (p : VelocityParts) : Type 0 where
  pub east : nat_abs p.east ≤ 2500
  pub north : nat_abs p.north ≤ 2500
  pub up : nat_abs p.up ≤ 2500
