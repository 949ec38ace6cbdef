-- What is promised of a velocity grid, beside the definitions: the bilinear rule once over every mesh, one value on an edge that two cells share, a velocity
-- small enough for a step; and of its lines, that their numbers are judged as the lines say them.
use Rattle.std.specs.Prelude.{◌≡◌, true, false, List, ℕ, ◌+◌, ◌≤◌, ◌<◌, ℤ, pos, ◌≤ℤ◌, Ok, Some}
use Rattle.std.proofs.Math.Option.{some}
use Rattle.line.specs.Fields.{said}
use Rattle.line.specs.Forms.{grid_form, node_form}
use Rattle.line.specs.Readers.{read_grid_header, hyphen_line, read_node}
use Rattle.line.specs.declared.GridHeader.{GridHeader}
use Rattle.line.specs.declared.VelocityParts.{VelocityParts}
use Rattle.velocity_grid.specs.Bilinear.{bilinear}
use Rattle.velocity_grid.specs.OnGrid.{grid_range}
use Rattle.velocity_grid.specs.AtPoint.{part_range, part_of}
use Rattle.velocity_grid.specs.Text.{parts_range, no_value}
use Rattle.velocity_grid.specs.Bounded.{Bounded}
use Rattle.velocity_grid.specs.declared.Cell.{Cell}
use Rattle.velocity_grid.specs.declared.Corners.{Corners}

-- ---- in a cell on a mesh of n: exact at each of its nodes, and never below the least nor above the greatest of them
pub record InCell (n : ℕ) : Type 0 where
  pub south-west : (c : Corners) → bilinear (pos n) (pos 0) (pos 0) c ≡ c.south_west
  pub south-east : (c : Corners) → bilinear (pos n) (pos n) (pos 0) c ≡ c.south_east
  pub north-west : (c : Corners) → bilinear (pos n) (pos 0) (pos n) c ≡ c.north_west
  pub north-east : (c : Corners) → bilinear (pos n) (pos n) (pos n) c ≡ c.north_east
  pub least : (x y : ℕ) → x ≤ n → y ≤ n → (c : Corners) (l : ℤ)
      → l ≤ℤ c.south_west → l ≤ℤ c.south_east → l ≤ℤ c.north_west → l ≤ℤ c.north_east → l ≤ℤ bilinear (pos n) (pos x) (pos y) c
  pub most : (x y : ℕ) → x ≤ n → y ≤ n → (c : Corners) (l : ℤ)
      → c.south_west ≤ℤ l → c.south_east ≤ℤ l → c.north_west ≤ℤ l → c.north_east ≤ℤ l → bilinear (pos n) (pos x) (pos y) c ≤ℤ l

-- ---- on an edge: a cell's own east edge is its eastern neighbour's west edge, and so its north edge
abbrev pub cell_at : ℕ → ℕ → ℤ → ℤ → ℤ → Cell
cell_at node columns m x y = record { node = node; columns = columns; mesh = m; east = x; north = y }

abbrev pub SharedEast : Type 0
SharedEast = (nodes : List ℤ) (p node columns : ℕ) (m y : ℤ) → part_of nodes p (cell_at node columns m m y) ≡ part_of nodes p (cell_at (node + 1) columns m (pos 0) y)

abbrev pub SharedNorth : Type 0
SharedNorth = (nodes : List ℤ) (p node columns : ℕ) (m x : ℤ) → part_of nodes p (cell_at node columns m x m) ≡ part_of nodes p (cell_at (node + columns) columns m x (pos 0))

-- ---- a grid's lines: numbers are carried up to a cap, and are in their ranges exactly where the line's own are; then they are those
pub record HeaderJudged (line : List ℕ) (g : GridHeader) : Type 0 where
  pub carried : GridHeader
  pub read : read_grid_header line ≡ Ok carried
  pub same : grid_range carried ≡ grid_range g
  pub kept : grid_range g ≡ true → carried ≡ g

pub record NodeJudged (line : List ℕ) (p : VelocityParts) : Type 0 where
  pub carried : VelocityParts
  pub read : read_node line ≡ Ok (Some carried)
  pub same : parts_range carried ≡ parts_range p
  pub kept : parts_range p ≡ true → carried ≡ p

pub record Velocities : Type 0 where
  pub cell : (n : ℕ) → 0 < n → InCell n
  pub east : SharedEast
  pub north : SharedNorth
  pub small : Bounded
  pub headers : (line : List ℕ) (g : GridHeader) → said grid_form line ≡ some g → HeaderJudged line g
  pub nodes : (line : List ℕ) (p : VelocityParts) → hyphen_line line ≡ false → said node_form line ≡ some p → NodeJudged line p
  -- the number of a node that has no value is past the range of every part
  pub none : part_range no_value ≡ false
