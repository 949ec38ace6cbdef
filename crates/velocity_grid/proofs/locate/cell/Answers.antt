-- `velocity_grid::locate::cell` meets its contract: the cells along the two axes, and the number of the node. Assumes nothing.
use mathlib.Core.Bool.{true}
use mathlib.Core.Path.{◌≡◌, sym, ◌∙◌, ap, ap₂, subst}
use Prim.Native.Nat.{◌≤◌, ℕ, ◌+◌, ◌*◌}
use native.Mathlib.Omega.{arith}
use lib.IntN.{ℤ, pos, nat_abs, ◌*ℤ◌}
use mir.Syntax.{w64}
use mir.Val.{SFits, to_z, of_z}
use Rattle.rounding.proofs.Machine.{fits, rd, to₄, of₄, told}
use Rattle.velocity_grid.specs.OnGrid.{mesh_range, mesh_of, on_axis, along_of, cell_of, AxisOk}
use Rattle.velocity_grid.specs.declared.Cell.{Cell}
use Rattle.line.specs.declared.GridHeader.{GridHeader}
use Rattle.velocity_grid.specs.declared.AxisCell.{AxisCell}
use Rattle.velocity_grid.proofs.OnGrid.{Header, header, rows-axis, columns-axis, size_is, on_both, AxisCellIn, along-in}
use Rattle.velocity_grid.proofs.locate.cell.Tie as tie
use Rattle.velocity_grid.proofs.locate.cell.Lts as lts
use Rattle.velocity_grid.proofs.locate.cell.Reads as reads
use Rattle.velocity_grid.proofs.locate.cell.Goals as goal

abbrev TheAfterAlong2 : Type 0
TheAfterAlong2 = lts.After-along2 tie.the-claims reads.Pre reads.Post

abbrev TheAfterMeshUnits : Type 0
TheAfterMeshUnits = lts.After-mesh_units tie.the-claims reads.Pre reads.Post

abbrev TheStart : Type 0
TheStart = lts.Start tie.the-claims reads.Pre reads.Post

pub mesh_units-m-requires : goal.mesh_units-m-requires
mesh_units-m-requires c =
    let g = c.args.g in
    ap mesh_range (told {z = g.mesh} c.struct_told-1.given.1.1.1.1.0.1) ∙ (header g c.requires.0).minutes

-- the mesh in units
module _ (c : TheAfterMeshUnits) where
  abbrev start : TheStart
  start = c.before.before

  abbrev grid : GridHeader
  grid = start.args.g

  mesh-is : to_z w64 (of_z w64 c.mesh_units-m.result) ≡ mesh_of grid
  unfolding mesh_of
  mesh-is =
      rd (record { sfits = c.mesh_units-m.type_inv }) ∙ c.mesh_units-m.ensures
      ∙ ap (λ (z : ℤ). z *ℤ pos 6000000) (told {z = grid.mesh} c.struct_told-1.given.1.1.1.1.0.1)

  head : Header grid
  head = header grid start.requires.0

  on : (on_axis grid.latitude grid.rows (mesh_of grid) start.args.latitude ≡ true) × (on_axis grid.longitude grid.columns (mesh_of grid) start.args.longitude ≡ true)
  on = on_both grid start.args.latitude start.args.longitude start.requires.1

abbrev Asked : ℤ → ℤ → ℤ → ℤ → Type 0
Asked s n m z = AxisOk s n m × (on_axis s n m z ≡ true)

pub along-north-requires : goal.along-north-requires
along-north-requires c =
    let m = c.before.before.before in
    let t = c.struct_told-3-1.given in
    to₄ Asked (told {z = (grid m).latitude} t.0.1) (told {z = (grid m).rows} t.1.1.0.1) (mesh-is m) (rd (start m).ranges.latitude) (rows-axis (grid m) (head m), (on m).0)

pub along-east-requires : goal.along-east-requires
along-east-requires c =
    let m = c.before.before.before.before.before.before in
    let t = c.struct_told-5-1.given in
    to₄ Asked (told {z = (grid m).longitude} t.1.0.1) (told {z = (grid m).columns} t.1.1.1.0.1) (mesh-is m) (rd (start m).ranges.longitude) (columns-axis (grid m) (head m), (on m).1)

-- the cells along the two axes
module _ (c : TheAfterAlong2) where
  abbrev made : TheAfterMeshUnits
  made = c.before.before.before.before.before.before

  abbrev g : GridHeader
  g = grid made

  north-is : c.along-north.result ≡ along_of g.latitude g.rows (mesh_of g) (start made).args.latitude
  north-is =
      let t = c.struct_told-5-1.given in
      c.along-north.ensures ∙ of₄ along_of (told {z = g.latitude} t.0.1) (told {z = g.rows} t.1.1.0.1) (mesh-is made) (rd (start made).ranges.latitude)

  east-is : c.along-east.result ≡ along_of g.longitude g.columns (mesh_of g) (start made).args.longitude
  east-is =
      let t = c.struct_told-5-1.given in
      c.along-east.ensures ∙ of₄ along_of (told {z = g.longitude} t.1.0.1) (told {z = g.columns} t.1.1.1.0.1) (mesh-is made) (rd (start made).ranges.longitude)

  north-in : AxisCellIn (nat_abs g.rows) (nat_abs (mesh_of g)) c.along-north.result
  north-in = subst (λ (p : AxisCell). AxisCellIn (nat_abs g.rows) (nat_abs (mesh_of g)) p) (sym north-is) (along-in (rows-axis g (head made)) (start made).args.latitude)

  east-in : AxisCellIn (nat_abs g.columns) (nat_abs (mesh_of g)) c.along-east.result
  east-in = subst (λ (p : AxisCell). AxisCellIn (nat_abs g.columns) (nat_abs (mesh_of g)) p) (sym east-is) (along-in (columns-axis g (head made)) (start made).args.longitude)

  rows_in : nat_abs g.rows ≤ 2000
  rows_in = size_is (head made).size.rows

  columns-in : nat_abs g.columns ≤ 2000
  columns-in = size_is (head made).size.columns

  columns-is : to_z w64 (of_z w64 g.columns) ≡ pos (head made).size.columns.n
  columns-is = told {z = g.columns} c.struct_told-5-1.given.1.1.1.0.1 ∙ (head made).size.columns.is

  columns-told : to_z w64 (of_z w64 g.columns) ≡ g.columns
  columns-told = told {z = g.columns} c.struct_told-5-1.given.1.1.1.0.1

  mesh-in : nat_abs (mesh_of g) ≤ 60000000
  mesh-in = size_is (head made).mesh

  east-fits : SFits w64 (pos c.along-east.result.offset)
  east-fits = let h = east-in.offset in let l = mesh-in in fits 60000000 (omega arith) (omega arith)

  north-fits : SFits w64 (pos c.along-north.result.offset)
  north-fits = let h = north-in.offset in let l = mesh-in in fits 60000000 (omega arith) (omega arith)

pub overflow_cast-columns : goal.overflow_cast-columns
overflow_cast-columns c =
    let m = c.before.before in
    let h = (head (made m)).size.columns.high in
    rw (columns-is m) (tt, record { fits = omega arith })

pub node_number-node-requires : goal.node_number-node-requires
node_number-node-requires c =
    let m = c.before.before in
    let n = (north-in m).cell in
    let e = (east-in m).cell in
    let r = rows_in m in
    let w = columns-in m in
    (omega arith, subst (λ (z : ℤ). nat_abs z ≤ 2000) (sym (columns-told m)) w, omega arith)

pub overflow_cast-result : goal.overflow_cast-result
overflow_cast-result c = east-fits c.before.before.before.before

pub overflow_cast-result-2 : goal.overflow_cast-result-2
overflow_cast-result-2 c = north-fits c.before.before.before.before.before

-- a cell is made of its parts
abbrev build : ℕ → ℕ → ℤ → ℤ → ℤ → Cell
build node columns mesh east north = record { node = node; columns = columns; mesh = mesh; east = east; north = north }

cells : {a a' b b' : ℕ} {m m' x x' y y' : ℤ} → a ≡ a' → b ≡ b' → m ≡ m' → x ≡ x' → y ≡ y' → build a b m x y ≡ build a' b' m' x' y'
cells p q r s t = rw (p, q, r, s, t)

numbered : {a a' b b' d d' : ℕ} → a ≡ a' → b ≡ b' → d ≡ d' → a * b + d ≡ a' * b' + d'
numbered p q r = rw (p, q, r)

pub returns : goal.returns
unfolding cell_of
returns c =
    let m = c.before.before.before.before.before in
    let g = grid (made m) in
    cells
    (c.node_number-node.ensures
    ∙ numbered (ap (λ (p : AxisCell). p.cell) (north-is m)) (ap nat_abs (columns-told m)) (ap (λ (p : AxisCell). p.cell) (east-is m)))
    (ap nat_abs (columns-told m)) (mesh-is (made m))
    (rd (east-fits m) ∙ ap (λ (p : AxisCell). pos p.offset) (east-is m))
    (rd (north-fits m) ∙ ap (λ (p : AxisCell). pos p.offset) (north-is m))
