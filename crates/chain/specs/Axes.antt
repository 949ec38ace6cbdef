-- The three axes, so that what holds on each is said once, and sizes of positions.
use Rattle.std.specs.Prelude.{ℕ, ◌≤◌, ℤ, nat_abs}
use Rattle.chain.specs.declared.Position.{Position}
use Rattle.chain.specs.Parts.{Part, Parts}

pub data Axis : Type 0 where
  on_x : Axis
  on_y : Axis
  on_z : Axis

abbrev pub coordinate : Axis → Position → ℤ
coordinate on_x p = p.x
coordinate on_y p = p.y
coordinate on_z p = p.z

abbrev pub part_on : Axis → Parts → Part
part_on on_x t = t.px
part_on on_y t = t.py
part_on on_z t = t.pz

-- no coordinate of p is larger than e in size
pub record Small (e : ℕ) (p : Position) : Type 0 where
  pub on : (i : Axis) → nat_abs (coordinate i p) ≤ e
