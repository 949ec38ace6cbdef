-- A velocity grid's header, and where a point stands on it. Nodes stand a mesh apart, eastward from the south-west corner, rows going north.
use Rattle.std.specs.Prelude.{Bool, ◌&&◌, ◌||◌, ℕ, ◌+◌, ◌-◌, ◌*◌, ◌/◌, ◌%◌, ◌≤◌, ltb, ℤ, pos, nat_abs, ◌+ℤ◌, ◌-ℤ◌, ◌*ℤ◌, ◌≤ℤ◌, ◌<ℤ◌}
use Rattle.std.specs.Int.Signed.{le_z}
use Rattle.refusal.specs.Order.{pick}
use Rattle.ranges.specs.Ranges.{within, equal, latitude_range, longitude_range}
use Rattle.line.specs.declared.GridHeader.{GridHeader}
use Rattle.velocity_grid.specs.declared.AxisCell.{AxisCell}
use Rattle.velocity_grid.specs.declared.Cell.{Cell}

-- ---- the header
-- rows and columns are 2 or more, and their nodes at most 4,000
unfoldable pub size_range : ℤ → ℤ → Bool
size_range rows columns = le_z (pos 2) rows && le_z (pos 2) columns && le_z (rows *ℤ columns) (pos 4000)

-- a mesh of 5 or 10 minutes
unfoldable pub mesh_range : ℤ → Bool
mesh_range m = equal (pos 5) m || equal (pos 10) m

unfoldable pub grid_range : GridHeader → Bool
grid_range g = latitude_range g.latitude && longitude_range g.longitude && size_range g.rows g.columns && mesh_range g.mesh

-- the mesh in units of 0.00001", of which a minute has 6,000,000
unfoldable pub mesh_of : GridHeader → ℤ
mesh_of g = g.mesh *ℤ pos 6000000

-- how many nodes
unfoldable pub nodes_of : GridHeader → ℕ
nodes_of g = nat_abs g.rows * nat_abs g.columns

-- ---- along an axis of so many nodes, m apart
-- from the first node to the last, both ends on the grid
unfoldable pub on_axis : ℤ → ℤ → ℤ → ℤ → Bool
on_axis start count m z = within start z (start +ℤ (count -ℤ pos 1) *ℤ m)

-- the cell, from 0, and how far into it, d past the first node: on a shared edge the cell to the north or east, at the grid's own outer edge the last
unfoldable pub axis_cell_of : ℕ → ℕ → ℕ → AxisCell
axis_cell_of count m d = pick (ltb (d / m + 1) count) (record { cell = d / m; offset = d % m }) (record { cell = count - 2; offset = m })

-- ---- a point
unfoldable pub on_grid : GridHeader → ℤ → ℤ → Bool
unfolding on_axis mesh_of
on_grid g latitude longitude = on_axis g.latitude g.rows (mesh_of g) latitude && on_axis g.longitude g.columns (mesh_of g) longitude

-- where it stands on an axis
unfoldable pub along_of : ℤ → ℤ → ℤ → ℤ → AxisCell
unfolding axis_cell_of
along_of start count m z = axis_cell_of (nat_abs count) (nat_abs m) (nat_abs (z -ℤ start))

-- its cell: the number of the south-west node, in the order of the nodes, the columns of a row, the mesh, and how far east and north of that node
unfoldable pub cell_of : GridHeader → ℤ → ℤ → Cell
unfolding along_of mesh_of
cell_of g latitude longitude =
    let n = along_of g.latitude g.rows (mesh_of g) latitude in
    let e = along_of g.longitude g.columns (mesh_of g) longitude in
    record {
      node = n.cell * nat_abs g.columns + e.cell;
      columns = nat_abs g.columns;
      mesh = mesh_of g;
      east = pos e.offset;
      north = pos n.offset;
    }

-- ---- what the code asks of an axis, so that nothing passes an i64: a start in the angles' ranges, 2 to 2,000 nodes, and a mesh of at most 10 minutes
pub record AxisOk (start count m : ℤ) : Type 0 where
  pub low : nat_abs start ≤ 43200000000
  pub least : pos 2 ≤ℤ count
  pub most : count ≤ℤ pos 2000
  pub mesh : pos 0 <ℤ m
  pub small : m ≤ℤ pos 60000000

-- what it asks of a cell: a point within it, and a number of its node that leaves room
pub record CellIn (c : Cell) : Type 0 where
  pub above : pos 0 <ℤ c.mesh
  pub small : c.mesh ≤ℤ pos 60000000
  pub east-from : pos 0 ≤ℤ c.east
  pub east-to : c.east ≤ℤ c.mesh
  pub north-from : pos 0 ≤ℤ c.north
  pub north-to : c.north ≤ℤ c.mesh
  pub node : c.node ≤ 5000000
  pub columns : c.columns ≤ 2000
