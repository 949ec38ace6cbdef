-- What is known of a point's parts: the nodes of its cell, how large the parts are, and what an answer says of the point. Assumes nothing.
use mathlib.Core.Path.{◌≡◌, refl, sym, ◌∙◌, ap, subst}
use mathlib.Core.Bool.{Bool, true, false, not, ◌&&◌}
use mathlib.Core.List.{List, [], ◌∷◌, ◌++◌}
use Rattle.std.specs.Prelude.{Result, Ok, Err}
use Prim.Native.Nat.{ℕ, zero, suc, ◌+◌, ◌*◌, ◌≤◌}
use native.Mathlib.Nat as NatL
use native.Mathlib.Omega.{arith}
use borrow.Author.Tests.{not-false}
use lib.IntN.{ℤ, pos, negsuc, nat_abs}
use lib.ListN.{get_or}
use Rattle.refusal.specs.Numbers as refusal
use Rattle.refusal.specs.Order.{◌gives◌, first, unless}
use Rattle.refusal.proofs.Orders.{Passed, passed, none, stop, on, unless-some}
use Rattle.ranges.specs.Ranges.{latitude_range, longitude_range}
use Rattle.ranges.proofs.Ranges.{both, all, up-to}
use Rattle.rounding.proofs.Zn.{v, k, le, unle, unlt, abs}
use Rattle.bounds.proofs.Zero.{Upto}
use Rattle.angle.specs.Ranges.{angle_tests}
use Rattle.velocity_grid.specs.Bilinear.{CellOk}
use Rattle.velocity_grid.specs.OnGrid.{grid_range, on_grid, cell_of, CellIn}
use Rattle.velocity_grid.specs.AtPoint.{part_range, value_of, known, cell_known, corners_of, part_of, parts_in, grid_tests, angles_and_cell_tests, parts_tests, parts_at, PartsOk}
use Rattle.line.specs.declared.GridHeader.{GridHeader}
use Rattle.velocity_grid.specs.declared.Cell.{Cell}
use Rattle.line.specs.declared.VelocityParts.{VelocityParts}
use Rattle.velocity_grid.proofs.Bilinear.{bilinear-size, east-edge, north-edge}
use Rattle.velocity_grid.proofs.OnGrid.{cell_in}

-- ---- a node with a value: each part within 2,500
module _ (nodes : List ℤ) (node : ℕ) (h : known nodes node ≡ true) where
  part-size : (p : ℕ) → p ≤ 2 → nat_abs (value_of nodes p node) ≤ 2500
  unfolding known
  part-size = go (all (part_range (value_of nodes 0 node)) (part_range (value_of nodes 1 node)) (part_range (value_of nodes 2 node)) h)
    where
      three : (p : ℕ) → suc (suc (suc p)) ≤ 2 → ⊥
      three p l = omega arith

      go : (part_range (value_of nodes 0 node) ≡ true) × (part_range (value_of nodes 1 node) ≡ true) × (part_range (value_of nodes 2 node) ≡ true)
          → (p : ℕ) → p ≤ 2 → nat_abs (value_of nodes p node) ≤ 2500
      go t zero l = up-to 2500 (value_of nodes 0 node) t.0
      go t (suc zero) l = up-to 2500 (value_of nodes 1 node) t.1
      go t (suc (suc zero)) l = up-to 2500 (value_of nodes 2 node) t.2
      go t (suc (suc (suc p))) l = absurd (three p l)

-- ---- a cell whose nodes all have one
module _ (nodes : List ℤ) (c : Cell) (i : CellIn c) (h : cell_known nodes c ≡ true) where
  mesh-size : nat_abs c.mesh ≤ 60000000
  mesh-size =
      let a = unlt i.above (k 0) (v c.mesh) in
      let b = unle i.small (v c.mesh) (k 60000000) in
      abs (v c.mesh) (omega arith) (omega arith)

  pub cell-ok : (p : ℕ) → p ≤ 2 → CellOk c.mesh c.east c.north (corners_of nodes p c)
  unfolding cell_known corners_of
  cell-ok p l =
      let d = both (known nodes c.node && known nodes (c.node + 1) && known nodes (c.node + c.columns)) (known nodes (c.node + c.columns + 1)) h in
      let t = all (known nodes c.node) (known nodes (c.node + 1)) (known nodes (c.node + c.columns)) d.0 in
      record {
        above = i.above;
        mesh = mesh-size;
        east-from = i.east-from;
        east-to = i.east-to;
        north-from = i.north-from;
        north-to = i.north-to;
        south-west = part-size nodes c.node t.0 p l;
        south-east = part-size nodes (c.node + 1) t.1 p l;
        north-west = part-size nodes (c.node + c.columns) t.2 p l;
        north-east = part-size nodes (c.node + c.columns + 1) d.1 p l;
      }

  within-nodes : (p : ℕ) → p ≤ 2 → nat_abs (part_of nodes p c) ≤ 2500
  unfolding part_of
  within-nodes p l =
      let o = cell-ok p l in
      bilinear-size c.mesh c.east c.north (corners_of nodes p c) 2500 o.above o.east-from o.east-to o.north-from o.north-to o.south-west o.south-east o.north-west o.north-east

  pub parts-ok : PartsOk (parts_in nodes c)
  unfolding parts_in
  parts-ok = record { east = within-nodes 0 (omega arith); north = within-nodes 1 (omega arith); up = within-nodes 2 (omega arith) }

-- ---- the answer by the tests
module _ (g : GridHeader) (nodes : List ℤ) (lat lon : ℤ) where
  abbrev cell : Cell
  cell = cell_of g lat lon

  pub by-grid : (first (grid_tests g nodes) ≡ 0 → ⊥) → Err (first (grid_tests g nodes)) ≡ parts_at g nodes lat lon
  unfolding parts_at
  by-grid f =
      rw (stop (grid_tests g nodes) (angles_and_cell_tests g nodes lat lon) f)
      (sym (unless-some (first (grid_tests g nodes)) Err (Ok (parts_in nodes cell)) f))

  module _ (p : Passed (grid_tests g nodes)) where
    pub by-angles : (first (angle_tests lat lon) ≡ 0 → ⊥) → Err (first (angle_tests lat lon)) ≡ parts_at g nodes lat lon
    unfolding parts_at
    by-angles f =
        rw (on (grid_tests g nodes) (angles_and_cell_tests g nodes lat lon) p, stop (angle_tests lat lon) ((not (on_grid g lat lon) gives refusal.off_grid) ∷ (not (cell_known nodes cell) gives refusal.off_grid) ∷ []) f)
        (sym (unless-some (first (angle_tests lat lon)) Err (Ok (parts_in nodes cell)) f))

    module _ (q : Passed (angle_tests lat lon)) where
      decided : first (parts_tests g nodes lat lon) ≡ first ((not (on_grid g lat lon) gives refusal.off_grid) ∷ (not (cell_known nodes cell) gives refusal.off_grid) ∷ [])
      decided =
          on (grid_tests g nodes) (angles_and_cell_tests g nodes lat lon) p
          ∙ on (angle_tests lat lon) ((not (on_grid g lat lon) gives refusal.off_grid) ∷ (not (cell_known nodes cell) gives refusal.off_grid) ∷ []) q

      pub by-off-grid : on_grid g lat lon ≡ false → Err refusal.off_grid ≡ parts_at g nodes lat lon
      unfolding parts_at
      by-off-grid e = rw (decided, e)

      pub by-nodes : on_grid g lat lon ≡ true → cell_known nodes cell ≡ false → Err refusal.off_grid ≡ parts_at g nodes lat lon
      unfolding parts_at
      by-nodes e f = rw (decided, e, f)

      pub by-none : on_grid g lat lon ≡ true → cell_known nodes cell ≡ true → Ok (parts_in nodes cell) ≡ parts_at g nodes lat lon
      unfolding parts_at
      by-none e f = rw (decided, e, f)

-- ---- what an answer says
pub record PartsFound (lat lon : ℤ) (p : VelocityParts) : Type 0 where
  pub parts : PartsOk p
  pub latitude : latitude_range lat ≡ true
  pub longitude : longitude_range lon ≡ true

module _ (g : GridHeader) (nodes : List ℤ) (lat lon : ℤ) (p : VelocityParts) where
  all-passed : Passed (parts_tests g nodes lat lon) → parts_in nodes (cell_of g lat lon) ≡ p → PartsFound lat lon p
  all-passed t e = record {
    parts = subst PartsOk e (parts-ok nodes (cell_of g lat lon) (cell_in g (not-false _ t.0) lat lon) (not-false _ t.1.1.1.1.1.0));
    latitude = not-false _ t.1.1.0;
    longitude = not-false _ t.1.1.1.0;
  }

  pub parts-found : parts_at g nodes lat lon ≡ Ok p → PartsFound lat lon p
  unfolding parts_at
  parts-found = go (first (parts_tests g nodes lat lon)) refl
    where
      same : (a b : VelocityParts) → ◌≡◌ {A = Result VelocityParts ℕ} (Ok a) (Ok b) → a ≡ b
      same a b h = cc

      never : (n : ℕ) → ◌≡◌ {A = Result VelocityParts ℕ} (Err n) (Ok p) → ⊥
      never n h = let z : ◌≡◌ {A = ℕ} 0 1 = cc in omega arith

      go : (n : ℕ) → first (parts_tests g nodes lat lon) ≡ n → unless n Err (Ok (parts_in nodes (cell_of g lat lon))) ≡ Ok p → PartsFound lat lon p
      go zero e h = all-passed (passed (parts_tests g nodes lat lon) tt e) (same _ _ h)
      go (suc n) e h = absurd (never (suc n) h)

-- ---- an edge that two cells share has one value: eastward to the next node, northward to the next row
pub shared-east : (nodes : List ℤ) (p node columns : ℕ) (m y : ℤ)
    → part_of nodes p (record { node = node; columns = columns; mesh = m; east = m; north = y }) ≡ part_of nodes p (record { node = node + 1; columns = columns; mesh = m; east = pos 0; north = y })
unfolding part_of corners_of
shared-east nodes p node columns m y =
    let e : node + columns + 1 ≡ node + 1 + columns = omega arith in
    east-edge m y
    (corners_of nodes p (record { node = node; columns = columns; mesh = m; east = m; north = y }))
    (corners_of nodes p (record { node = node + 1; columns = columns; mesh = m; east = pos 0; north = y }))
    refl (ap (value_of nodes p) e)

pub shared-north : (nodes : List ℤ) (p node columns : ℕ) (m x : ℤ)
    → part_of nodes p (record { node = node; columns = columns; mesh = m; east = x; north = m }) ≡ part_of nodes p (record { node = node + columns; columns = columns; mesh = m; east = x; north = pos 0 })
unfolding part_of corners_of
shared-north nodes p node columns m x =
    north-edge m x
    (corners_of nodes p (record { node = node; columns = columns; mesh = m; east = x; north = m }))
    (corners_of nodes p (record { node = node + columns; columns = columns; mesh = m; east = x; north = pos 0 }))
    refl refl

-- ---- a number of at most b in size
pub sized-upto : (b : ℕ) (z : ℤ) → nat_abs z ≤ b → Upto b z
sized-upto b (pos n) h = h
sized-upto b (negsuc n) h = h
