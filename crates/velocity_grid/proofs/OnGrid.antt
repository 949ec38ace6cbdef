-- What a grid's ranges say of its numbers, and where a point's cell lies. Assumes nothing.
use mathlib.Core.Path.{◌≡◌, refl, sym, ◌∙◌, ap, ap₂, subst}
use mathlib.Core.Bool.{Bool, true, false, ◌&&◌, ◌||◌}
use Prim.Native.Nat.{ℕ, ◌+◌, ◌-◌, ◌*◌, ◌/◌, ◌%◌, ◌<◌, ◌≤◌}
use native.Mathlib.Nat as NatL
use native.Mathlib.Omega.{arith}
use borrow.Author.Tests.{ltb-true, ltb-false}
use lib.Dec.{ltb, leb→le, ltb→lt}
use lib.IntN.{ℤ, pos, negsuc, nat_abs, ◌+ℤ◌, ◌-ℤ◌, ◌*ℤ◌}
use lib.Signed.{le_z, ◌≤ℤ◌, ◌<ℤ◌}
use Rattle.refusal.specs.Order.{pick}
use Rattle.ranges.specs.Ranges.{within, equal, latitude_range, longitude_range}
use Rattle.ranges.proofs.Ranges.{Natural, both, bounds, natural, natural-holds, equal_is}
use Rattle.rounding.proofs.Zn.{P, N, v, k, ◌⊕◌, ◌⊖◌, ◌⊗◌, le, unle, lt, unlt, eq, abs, unabs, pos-abs, mul-le}
use Rattle.rounding.proofs.Machine.{le-true, yes_le}
use Rattle.velocity_grid.specs.OnGrid.{size_range, mesh_range, grid_range, mesh_of, nodes_of, on_axis, axis_cell_of, on_grid, along_of, cell_of, AxisOk, CellIn}
use Rattle.line.specs.declared.GridHeader.{GridHeader}
use Rattle.velocity_grid.specs.declared.AxisCell.{AxisCell}
use Rattle.velocity_grid.specs.declared.Cell.{Cell}

-- ---- rows and columns
pub record Sized (r c : ℤ) : Type 0 where
  pub rows : Natural 2 r 2000
  pub columns : Natural 2 c 2000
  pub nodes : (r *ℤ c) ≤ℤ pos 4000

-- neither passes 2,000, since the other is 2 at least
pub sized : (r c : ℤ) → size_range r c ≡ true → Sized r c
unfolding size_range
sized r c e =
    let f = both (le_z (pos 2) r && le_z (pos 2) c) (le_z (r *ℤ c) (pos 4000)) e in
    let g = both (le_z (pos 2) r) (le_z (pos 2) c) f.0 in
    go r c (le-true (pos 2) r g.0) (le-true (pos 2) c g.1) (le-true (r *ℤ c) (pos 4000) f.1)
  where
    go : (r c : ℤ) → pos 2 ≤ℤ r → pos 2 ≤ℤ c → (r *ℤ c) ≤ℤ pos 4000 → Sized r c
    go (pos a) (pos b) h l m =
        let x : 2 ≤ a = leb→le 2 a h.le in
        let y : 2 ≤ b = leb→le 2 b l.le in
        let z : a * b ≤ 4000 = leb→le (a * b) 4000 m.le in
        let p = NatL.mul-le-mul_left a y in
        let q = NatL.mul-le-mul_right b x in
        record { rows = record { n = a; is = refl; low = x; high = omega arith }; columns = record { n = b; is = refl; low = y; high = omega arith }; nodes = m }
    go (negsuc a) c h l m = absurd h.le
    go (pos a) (negsuc b) h l m = absurd l.le

pub few : (a b : ℕ) (r c : ℤ) → r ≡ pos a → c ≡ pos b → (r *ℤ c) ≤ℤ pos 4000 → a * b ≤ 4000
few a b r c p q m = leb→le (a * b) 4000 (rw (p, q) at m).le

-- with both from 2 to 2,000, the product decides
pub sized-by : (r c : ℤ) → within (pos 2) r (pos 2000) ≡ true → within (pos 2) c (pos 2000) ≡ true → size_range r c ≡ le_z (r *ℤ c) (pos 4000)
unfolding size_range
sized-by r c h l = rw (yes_le (pos 2) r (bounds (pos 2) r (pos 2000) h).0, yes_le (pos 2) c (bounds (pos 2) c (pos 2000) l).0)

pub not-sized : (r c : ℤ) → (within (pos 2) r (pos 2000) && within (pos 2) c (pos 2000)) ≡ false → size_range r c ≡ false
not-sized r c e = go (size_range r c) refl
  where
    again : {lo hi : ℕ} {z : ℤ} → Natural lo z hi → within (pos lo) z (pos hi) ≡ true
    again {lo} {hi} p = subst (λ (z : ℤ). within (pos lo) z (pos hi) ≡ true) (sym p.is) (natural-holds lo p.n hi p.low p.high)

    go : (b : Bool) → size_range r c ≡ b → size_range r c ≡ false
    go false f = f
    go true f = let s = sized r c f in f ∙ sym (ap₂ ◌&&◌ (again s.rows) (again s.columns)) ∙ e

-- ---- the header
pub record Header (g : GridHeader) : Type 0 where
  pub latitude : latitude_range g.latitude ≡ true
  pub longitude : longitude_range g.longitude ≡ true
  pub sizes : size_range g.rows g.columns ≡ true
  pub size : Sized g.rows g.columns
  pub minutes : mesh_range g.mesh ≡ true
  pub mesh : Natural 30000000 (mesh_of g) 60000000

pub mesh-between : (m : ℤ) → mesh_range m ≡ true → Natural 30000000 (m *ℤ pos 6000000) 60000000
unfolding mesh_range
mesh-between m e = go (equal (pos 5) m) (equal (pos 10) m) refl refl e
  where
    at : (n : ℕ) → 5 ≤ n → n ≤ 10 → pos n ≡ m → Natural 30000000 (m *ℤ pos 6000000) 60000000
    at n h l f = subst (λ (z : ℤ). Natural 30000000 (z *ℤ pos 6000000) 60000000) f (record { n = n * 6000000; is = refl; low = omega arith; high = omega arith })

    go : (a b : Bool) → equal (pos 5) m ≡ a → equal (pos 10) m ≡ b → (a || b) ≡ true → Natural 30000000 (m *ℤ pos 6000000) 60000000
    go true b p q r = at 5 (omega arith) (omega arith) (equal_is (pos 5) m p)
    go false true p q r = at 10 (omega arith) (omega arith) (equal_is (pos 10) m q)
    go false false p q r = absurd (no r)
      where
        no : false ≡ true → ⊥
        no r = let z : ◌≡◌ {A = ℕ} 0 1 = cc in omega arith

pub header : (g : GridHeader) → grid_range g ≡ true → Header g
unfolding grid_range mesh_of
header g e =
    let f = both (latitude_range g.latitude && longitude_range g.longitude && size_range g.rows g.columns) (mesh_range g.mesh) e in
    let h = both (latitude_range g.latitude && longitude_range g.longitude) (size_range g.rows g.columns) f.0 in
    let l = both (latitude_range g.latitude) (longitude_range g.longitude) h.0 in
    record { latitude = l.0; longitude = l.1; sizes = h.1; size = sized g.rows g.columns h.1; minutes = f.1; mesh = mesh-between g.mesh f.1 }

-- ---- the axes
least-is : {lo hi : ℕ} {z : ℤ} → Natural lo z hi → pos lo ≤ℤ z
least-is {lo} {hi} p = let l = p.low in subst (λ (z : ℤ). pos lo ≤ℤ z) (sym p.is) (le (k lo) (k p.n) (omega arith))

most-is : {lo hi : ℕ} {z : ℤ} → Natural lo z hi → z ≤ℤ pos hi
most-is {lo} {hi} p = let h = p.high in subst (λ (z : ℤ). z ≤ℤ pos hi) (sym p.is) (le (k p.n) (k hi) (omega arith))

pub size_is : {lo hi : ℕ} {z : ℤ} → Natural lo z hi → nat_abs z ≤ hi
size_is {lo} {hi} p = subst (λ (z : ℤ). nat_abs z ≤ hi) (sym p.is) p.high

axis : {s c m : ℤ} → nat_abs s ≤ 43200000000 → Natural 2 c 2000 → Natural 30000000 m 60000000 → AxisOk s c m
axis {s} {c} {m} h p q = record {
  low = h;
  least = least-is p;
  most = most-is p;
  mesh = let l = unle (least-is q) (k 30000000) (v m) in lt (k 0) (v m) (omega arith);
  small = most-is q;
}

pub rows-axis : (g : GridHeader) → Header g → AxisOk g.latitude g.rows (mesh_of g)
rows-axis g h = axis (let l = size_is (natural 0 g.latitude 2880000000 h.latitude) in omega arith) h.size.rows h.mesh

pub columns-axis : (g : GridHeader) → Header g → AxisOk g.longitude g.columns (mesh_of g)
columns-axis g h = axis (size_is (natural 35640000000 g.longitude 43200000000 h.longitude)) h.size.columns h.mesh

-- ---- where a number stands on an axis
pub record AxisCellIn (count m : ℕ) (p : AxisCell) : Type 0 where
  pub cell : p.cell + 2 ≤ count
  pub offset : p.offset ≤ m

pub axis-cell-in : (count m d : ℕ) → 2 ≤ count → 0 < m → AxisCellIn count m (axis_cell_of count m d)
unfolding axis_cell_of
axis-cell-in count m d h l = go (ltb (d / m + 1) count) refl
  where
    go : (b : Bool) → ltb (d / m + 1) count ≡ b → AxisCellIn count m (pick b (record { cell = d / m; offset = d % m }) (record { cell = count - 2; offset = m }))
    go true e = record { cell = omega (arith, ltb-true (d / m + 1) count e); offset = omega (arith, NatL.mod-lt d l) }
    go false e = record { cell = omega arith; offset = NatL.le_refl m }

pub along-in : {s c m : ℤ} → AxisOk s c m → (z : ℤ) → AxisCellIn (nat_abs c) (nat_abs m) (along_of s c m z)
unfolding along_of
along-in {s} {c} {m} a z =
    let l = unle a.least (k 2) (v c) in
    let x = pos-abs (le (k 0) (v c) (omega arith)) (v c) in
    let h = unlt a.mesh (k 0) (v m) in
    let y = pos-abs (le (k 0) (v m) (omega arith)) (v m) in
    axis-cell-in (nat_abs c) (nat_abs m) (nat_abs (z -ℤ s)) (omega arith) (omega arith)

-- ---- a point's cell
pub cell_in : (g : GridHeader) → grid_range g ≡ true → (lat lon : ℤ) → CellIn (cell_of g lat lon)
unfolding cell_of
cell_in g e lat lon =
    let h = header g e in
    let n = along-in (rows-axis g h) lat in
    let w = along-in (columns-axis g h) lon in
    let r : nat_abs g.rows ≤ 2000 = size_is h.size.rows in
    let c : nat_abs g.columns ≤ 2000 = size_is h.size.columns in
    let m = columns-axis g h in
    let t = unlt m.mesh (k 0) (v (mesh_of g)) in
    let s = pos-abs (le (k 0) (v (mesh_of g)) (omega arith)) (v (mesh_of g)) in
    let nc = n.cell in
    let wc = w.cell in
    let no = n.offset in
    let wo = w.offset in
    let small : (along_of g.latitude g.rows (mesh_of g) lat).cell ≤ 2000 = omega arith in
    let p : (along_of g.latitude g.rows (mesh_of g) lat).cell * nat_abs g.columns ≤ 2000 * 2000 = NatL.mul-le-mul small c in
    record {
      above = m.mesh;
      small = m.small;
      east-from = le (k 0) (k _) (omega arith);
      east-to = le (k _) (v (mesh_of g)) (omega arith);
      north-from = le (k 0) (k _) (omega arith);
      north-to = le (k _) (v (mesh_of g)) (omega arith);
      node = omega arith;
      columns = c;
    }

-- ---- a number on an axis: not below its start, and not past its end
pub record On (start count m z : ℤ) : Type 0 where
  pub from : pos 0 ≤ℤ (z -ℤ start)
  pub size : nat_abs (z -ℤ start) ≤ 119940000000

-- the end is at most 1,999 meshes past the start
pub end-size : {s c m : ℤ} → AxisOk s c m → nat_abs ((c -ℤ pos 1) *ℤ m) ≤ 119940000000
end-size {s} {c} {m} a =
    let l = unle a.least (k 2) (v c) in
    let h = unle a.most (v c) (k 2000) in
    let p = unlt a.mesh (k 0) (v m) in
    let q = unle a.small (v m) (k 60000000) in
    mul-le (c -ℤ pos 1) m 1999 60000000 (abs (v c ⊖ k 1) (omega arith) (omega arith)) (abs (v m) (omega arith) (omega arith))

pub on-axis : {s c m : ℤ} (z : ℤ) → AxisOk s c m → on_axis s c m z ≡ true → On s c m z
unfolding on_axis
on-axis {s} {c} {m} z a e =
    let b = bounds s z (s +ℤ (c -ℤ pos 1) *ℤ m) e in
    let x = unle b.0 (v s) (v z) in
    let y = unle b.1 (v z) (v s ⊕ v ((c -ℤ pos 1) *ℤ m)) in
    let t = unabs 119940000000 (end-size a) (v ((c -ℤ pos 1) *ℤ m)) in
    record { from = le (k 0) (v z ⊖ v s) (omega arith); size = abs (v z ⊖ v s) (omega arith) (omega arith) }

-- what is not below 0 is its size
pub natural-of : {z : ℤ} → pos 0 ≤ℤ z → z ≡ pos (nat_abs z)
natural-of {z = pos n} h = refl
natural-of {z = negsuc n} h = absurd h.le

-- both axes of a point on the grid
pub on_both : (g : GridHeader) (lat lon : ℤ) → on_grid g lat lon ≡ true
    → (on_axis g.latitude g.rows (mesh_of g) lat ≡ true) × (on_axis g.longitude g.columns (mesh_of g) lon ≡ true)
unfolding on_grid
on_both g lat lon e = both (on_axis g.latitude g.rows (mesh_of g) lat) (on_axis g.longitude g.columns (mesh_of g) lon) e
