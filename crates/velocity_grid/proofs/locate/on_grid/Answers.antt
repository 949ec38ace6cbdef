-- `velocity_grid::locate::on_grid` meets its contract: both axes. Assumes nothing.
use mathlib.Core.Path.{◌≡◌, ◌∙◌, ap, ap₂}
use mathlib.Core.Bool.{true, ◌&&◌}
use lib.IntN.{ℤ, pos, ◌*ℤ◌}
use mir.Syntax.{w64}
use mir.Val.{to_z, of_z}
use Rattle.rounding.proofs.Machine.{rd, to₃, of₄, told}
use Rattle.velocity_grid.specs.OnGrid.{mesh_range, mesh_of, on_axis, on_grid, AxisOk}
use Rattle.line.specs.declared.GridHeader.{GridHeader}
use Rattle.velocity_grid.proofs.OnGrid.{Header, header, rows-axis, columns-axis}
use Rattle.velocity_grid.proofs.locate.on_grid.Tie as tie
use Rattle.velocity_grid.proofs.locate.on_grid.Lts as lts
use Rattle.velocity_grid.proofs.locate.on_grid.Reads as reads
use Rattle.velocity_grid.proofs.locate.on_grid.Goals as goal

abbrev TheAfterMeshUnits : Type 0
TheAfterMeshUnits = lts.After-mesh_units tie.the-claims reads.Pre reads.Post

pub mesh_units-m-requires : goal.mesh_units-m-requires
mesh_units-m-requires c =
    let g = c.args.g in
    ap mesh_range (told {z = g.mesh} c.struct_told-1.given.1.1.1.1.0.1) ∙ (header g c.requires).minutes

-- the mesh in units
module _ (c : TheAfterMeshUnits) where
  abbrev grid : GridHeader
  grid = c.args.g

  mesh-is : to_z w64 (of_z w64 c.mesh_units-m.result) ≡ mesh_of grid
  unfolding mesh_of
  mesh-is =
      rd (record { sfits = c.mesh_units-m.type_inv }) ∙ c.mesh_units-m.ensures
      ∙ ap (λ (z : ℤ). z *ℤ pos 6000000) (told {z = grid.mesh} c.struct_told-1.given.1.1.1.1.0.1)

  head : Header grid
  head = header grid c.requires

pub on_axis-requires : goal.on_axis-requires
on_axis-requires c =
    let m = c.before.before.before in
    let t = c.struct_told-3-1.given in
    to₃ AxisOk (told {z = (grid m).latitude} t.0.1) (told {z = (grid m).rows} t.1.1.0.1) (mesh-is m) (rows-axis (grid m) (head m))

pub on_axis-requires-2 : goal.on_axis-requires-2
on_axis-requires-2 c =
    let m = c.before.before.before.before.before.before in
    let t = c.struct_told-5-1.given in
    to₃ AxisOk (told {z = (grid m).longitude} t.1.0.1) (told {z = (grid m).columns} t.1.1.1.0.1) (mesh-is m) (columns-axis (grid m) (head m))

pub returns : goal.returns
unfolding on_grid
returns c =
    let m = c.before.before.before.before.before.before in
    let s = m in
    let t = c.struct_told-5-1.given in
    ap₂ ◌&&◌
    (c.on_axis.ensures ∙ of₄ on_axis (told {z = (grid m).latitude} t.0.1) (told {z = (grid m).rows} t.1.1.0.1) (mesh-is m) (rd s.ranges.latitude))
    (c.on_axis-2.ensures ∙ of₄ on_axis (told {z = (grid m).longitude} t.1.0.1) (told {z = (grid m).columns} t.1.1.1.0.1) (mesh-is m) (rd s.ranges.longitude))
