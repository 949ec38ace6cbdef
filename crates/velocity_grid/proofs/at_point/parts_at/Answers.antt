-- `velocity_grid::at_point::parts_at` meets its contract: each return has the tests that led there. Assumes nothing.
use borrow.Author.Rules.{rules}
use borrow.Author.Tests.{not-false}
use mathlib.Core.Bool.{Bool, true, false}
use mathlib.Core.List.{List}
use mathlib.Core.Path.{◌≡◌, sym, ◌∙◌, ap, ap₂, subst}
use Prim.Native.Nat.{ℕ}
use lib.IntN.{ℤ}
use Rattle.std.specs.Prelude.{Ok, Err}
use Rattle.refusal.specs.Order.{first}
use Rattle.refusal.specs.Refusals.{number}
use Rattle.refusal.specs.declared.Refusal.{Refusal}
use Rattle.refusal.proofs.Orders.{Passed, passed}
use Rattle.refusal.proofs.Refusals.{not-none}
use Rattle.rounding.proofs.Machine.{rd}
use Rattle.angle.specs.Ranges.{angle_tests, angles_fault}
use Rattle.angle.proofs.Exits.{told-is}
use Rattle.angle.proofs.NoFault.{angles-first}
use Rattle.line.specs.declared.GridHeader.{GridHeader}
use Rattle.velocity_grid.specs.AtPoint.{grid_tests, cell_known, parts_in, parts_at}
use Rattle.velocity_grid.specs.OnGrid.{grid_range, on_grid, cell_of, CellIn}
use Rattle.velocity_grid.specs.declared.Cell.{Cell}
use Rattle.velocity_grid.proofs.AtPoint.{by-grid, by-angles, by-off-grid, by-nodes, by-none}
use Rattle.velocity_grid.proofs.OnGrid.{cell_in}
use Rattle.velocity_grid.proofs.at_point.parts_at.Goals as goal

-- ---- what is known on the way, of the angles as the machine reads them
module _ (g : GridHeader) (ns : List ℤ) {lat lat' lon lon' : ℤ} (p : lat' ≡ lat) (q : lon' ≡ lon) where
  grid-passed : 0 ≡ first (grid_tests g ns) → Passed (grid_tests g ns)
  grid-passed e = passed (grid_tests g ns) tt (sym e)

  ranged : 0 ≡ first (grid_tests g ns) → grid_range g ≡ true
  ranged e = not-false _ (grid-passed e).0

  angles : {n : ℕ} → n ≡ angles_fault lat' lon' → n ≡ first (angle_tests lat lon)
  angles e = e ∙ ap₂ angles_fault p q ∙ angles-first lat lon

  angles-passed : 0 ≡ angles_fault lat' lon' → Passed (angle_tests lat lon)
  angles-passed e = passed (angle_tests lat lon) tt (sym (angles e))

  on : {b t : Bool} → b ≡ on_grid g lat' lon' → b ≡ t → on_grid g lat lon ≡ t
  on e h = sym (ap₂ (on_grid g) p q) ∙ sym e ∙ h

  module _ {c : Cell} (e : c ≡ cell_of g lat' lon') where
    is-cell : c ≡ cell_of g lat lon
    is-cell = e ∙ ap₂ (cell_of g) p q

    inside : grid_range g ≡ true → CellIn c
    inside r = subst CellIn (sym is-cell) (cell_in g r lat lon)

    nodes : {b t : Bool} → b ≡ cell_known ns c → b ≡ t → cell_known ns (cell_of g lat lon) ≡ t
    nodes w h = sym (ap (cell_known ns) is-cell) ∙ sym w ∙ h

by-grid-fault : (g : GridHeader) (ns : List ℤ) (lat lon : ℤ) (e : Refusal) → number e ≡ first (grid_tests g ns) → Err (number e) ≡ parts_at g ns lat lon
by-grid-fault g ns lat lon e h = ap Err h ∙ by-grid g ns lat lon (λ z. not-none e (h ∙ z))

pub returns-in_err-grid_fault : goal.returns-in_err-grid_fault
returns-in_err-grid_fault c =
    let a = c.args in
    told-is c.from_residual.result _ c.from_residual.ensures.1 ∙ by-grid-fault a.g a.nodes.now a.latitude a.longitude _ c.in_err-grid_fault.ensures

pub returns-in_err-angles_fault : goal.returns-in_err-angles_fault
returns-in_err-angles_fault c =
    let a = c.args in
    let e = c.in_err-angles_fault.field-0.0 in
    let h : number e ≡ first (angle_tests a.latitude a.longitude) = angles a.g a.nodes.now (rd c.ranges.latitude) (rd c.ranges.longitude) c.in_err-angles_fault.ensures in
    told-is c.from_residual-in_err-angles_fault.result e c.from_residual-in_err-angles_fault.ensures.1
    ∙ ap Err h
    ∙ by-angles a.g a.nodes.now a.latitude a.longitude (grid-passed a.g a.nodes.now (rd c.ranges.latitude) (rd c.ranges.longitude) c.in_ok-grid_fault.ensures)
    (λ z. not-none e (h ∙ z))

pub on_grid-requires : goal.on_grid-requires
on_grid-requires c = ranged c.args.g c.args.nodes.now (rd c.ranges.latitude) (rd c.ranges.longitude) c.in_ok-grid_fault.ensures

pub returns-then-not-on_grid : goal.returns-then-not-on_grid
returns-then-not-on_grid c =
    let a = c.args in
    let p = rd c.ranges.latitude in
    let q = rd c.ranges.longitude in
    by-off-grid a.g a.nodes.now a.latitude a.longitude (grid-passed a.g a.nodes.now p q c.in_ok-grid_fault.ensures)
    (angles-passed a.g a.nodes.now p q c.in_ok-angles_fault.ensures) (on a.g a.nodes.now p q c.on_grid.ensures c.if-not-on_grid.true)

pub cell-c-requires : goal.cell-c-requires
cell-c-requires c =
    (ranged c.args.g c.args.nodes.now (rd c.ranges.latitude) (rd c.ranges.longitude) c.in_ok-grid_fault.ensures, sym c.on_grid.ensures ∙ c.if-not-on_grid.false)

pub cell_known-requires : goal.cell_known-requires
cell_known-requires c =
    let a = c.args in
    let p = rd c.ranges.latitude in
    let q = rd c.ranges.longitude in
    let i = inside a.g a.nodes.now p q c.cell-c.ensures (ranged a.g a.nodes.now p q c.in_ok-grid_fault.ensures) in
    (i.node, i.columns)

pub returns-then-not-cell_known : goal.returns-then-not-cell_known
returns-then-not-cell_known c =
    let a = c.args in
    let p = rd c.ranges.latitude in
    let q = rd c.ranges.longitude in
    by-nodes a.g a.nodes.now a.latitude a.longitude (grid-passed a.g a.nodes.now p q c.in_ok-grid_fault.ensures)
    (angles-passed a.g a.nodes.now p q c.in_ok-angles_fault.ensures) (on a.g a.nodes.now p q c.on_grid.ensures c.if-not-on_grid.false)
    (nodes a.g a.nodes.now p q c.cell-c.ensures c.cell_known.ensures c.if-not-cell_known.true)

pub parts_in-requires : goal.parts_in-requires
parts_in-requires c =
    let a = c.args in
    let p = rd c.ranges.latitude in
    let q = rd c.ranges.longitude in
    (inside a.g a.nodes.now p q c.cell-c.ensures (ranged a.g a.nodes.now p q c.in_ok-grid_fault.ensures), sym c.cell_known.ensures ∙ c.if-not-cell_known.false)

pub returns : goal.returns
returns c =
    let a = c.args in
    let p = rd c.ranges.latitude in
    let q = rd c.ranges.longitude in
    ap Ok (c.parts_in.ensures ∙ ap (parts_in a.nodes.now) (is-cell a.g a.nodes.now p q c.cell-c.ensures))
    ∙ by-none a.g a.nodes.now a.latitude a.longitude (grid-passed a.g a.nodes.now p q c.in_ok-grid_fault.ensures)
    (angles-passed a.g a.nodes.now p q c.in_ok-angles_fault.ensures) (on a.g a.nodes.now p q c.on_grid.ensures c.if-not-on_grid.false)
    (nodes a.g a.nodes.now p q c.cell-c.ensures c.cell_known.ensures c.if-not-cell_known.false)
