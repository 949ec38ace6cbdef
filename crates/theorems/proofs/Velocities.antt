-- The statement of specs/Velocities.antt, from the laws of crate velocity_grid. Assumes nothing.
use Rattle.velocity_grid.proofs.Bilinear.{at-south-west, at-south-east, at-north-west, at-north-east, at_least, at_most}
use Rattle.velocity_grid.proofs.AtPoint.{shared-east, shared-north}
use Rattle.velocity_grid.proofs.TurnFinite.{bounded}
use Rattle.velocity_grid.proofs.Carried.{sure-header, sure-parts}
use mathlib.Core.Path.{◌≡◌, refl}
use mathlib.Core.Bool.{false}
use mathlib.Core.List.{List}
use mathlib.Core.Option.{some}
use Prim.Native.Nat.{ℕ}
use lib.IntN.{pos, negsuc}
use Rattle.ranges.proofs.Ranges.{above}
use Rattle.velocity_grid.specs.AtPoint.{part_range}
use Rattle.velocity_grid.specs.Text.{no_value}
use Rattle.line.specs.Fields.{said}
use Rattle.line.specs.Forms.{grid_form, node_form}
use Rattle.line.specs.Reading.{capped_header, capped_parts}
use Rattle.line.specs.Readers.{hyphen_line}
use Rattle.line.specs.declared.GridHeader.{GridHeader}
use Rattle.line.specs.declared.VelocityParts.{VelocityParts}
use Rattle.line.proofs.Readers.{header_read, node-read}
use Rattle.theorems.specs.Velocities.{HeaderJudged, NodeJudged, Velocities}

value-none : part_range no_value ≡ false
value-none = above (negsuc 2499) no_value (pos 2500) refl

-- ---- a grid's lines
header-judged : (line : List ℕ) (g : GridHeader) → said grid_form line ≡ some g → HeaderJudged line g
header-judged line g e = record { carried = capped_header g; read = header_read line g e; same = sure-header.same g; kept = sure-header.kept g }

node-judged : (line : List ℕ) (p : VelocityParts) → hyphen_line line ≡ false → said node_form line ≡ some p → NodeJudged line p
node-judged line p h e = record { carried = capped_parts p; read = node-read line p h e; same = sure-parts.same p; kept = sure-parts.kept p }

pub velocities : Velocities
velocities = record {
  cell = λ n h. record {
    south-west = at-south-west n h;
    south-east = at-south-east n h;
    north-west = at-north-west n h;
    north-east = at-north-east n h;
    least = at_least n h;
    most = at_most n h;
  };
  east = shared-east;
  north = shared-north;
  small = bounded;
  headers = header-judged;
  nodes = node-judged;
  none = value-none;
}
