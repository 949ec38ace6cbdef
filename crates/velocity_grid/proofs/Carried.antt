-- The ranges of a grid's numbers cannot tell a number from the number as it is carried. Assumes nothing.
use mathlib.Core.Path.{◌≡◌, refl, sym, ◌∙◌, ap₂, subst}
use mathlib.Core.Bool.{Bool, true, false, ◌&&◌}
use native.Mathlib.Omega.{arith}
use lib.IntN.{ℤ, pos, negsuc}
use Rattle.ranges.specs.Ranges.{within, latitude_range, longitude_range}
use Rattle.ranges.proofs.Ranges.{Natural, natural-holds, both}
use Rattle.ranges.proofs.Carried.{Sure, same-both, sure-either}
use Rattle.line.specs.Reading.{capped_z, capped_header, capped_parts}
use Rattle.line.proofs.Capped.{sure-within}
use Rattle.velocity_grid.specs.OnGrid.{size_range, mesh_range, grid_range}
use Rattle.velocity_grid.specs.AtPoint.{part_range}
use Rattle.velocity_grid.specs.Text.{parts_range}
use Rattle.velocity_grid.proofs.OnGrid.{sized, not-sized}

sure-latitude : Sure capped_z latitude_range
sure-latitude = sure-within (pos 0) (pos 2880000000) (omega arith) (omega arith)

sure-longitude : Sure capped_z longitude_range
sure-longitude = sure-within (pos 35640000000) (pos 43200000000) (omega arith) (omega arith)

sure-mesh : Sure capped_z mesh_range
unfolding mesh_range
sure-mesh = sure-either (sure-within (pos 5) (pos 5) (omega arith) (omega arith)) (sure-within (pos 10) (pos 10) (omega arith) (omega arith))

sure-part : Sure capped_z part_range
sure-part = sure-within (negsuc 2499) (pos 2500) (omega arith) (omega arith)

-- ---- rows and columns: neither passes 2,000
abbrev count : ℤ → Bool
count z = within (pos 2) z (pos 2000)

sure-count : Sure capped_z count
sure-count = sure-within (pos 2) (pos 2000) (omega arith) (omega arith)

counted : {z : ℤ} → Natural 2 z 2000 → count z ≡ true
counted p = subst (λ (z : ℤ). count z ≡ true) (sym p.is) (natural-holds 2 p.n 2000 p.low p.high)

size-kept : (r c : ℤ) → size_range r c ≡ true → (capped_z r ≡ r) × (capped_z c ≡ c)
size-kept r c e = let s = sized r c e in (sure-count.kept r (counted s.rows), sure-count.kept c (counted s.columns))

size_same : (r c : ℤ) → size_range (capped_z r) (capped_z c) ≡ size_range r c
size_same r c = go (count r && count c) refl
  where
    go : (b : Bool) → (count r && count c) ≡ b → size_range (capped_z r) (capped_z c) ≡ size_range r c
    go true e = let h = both (count r) (count c) e in ap₂ size_range (sure-count.kept r h.0) (sure-count.kept c h.1)
    go false e = not-sized (capped_z r) (capped_z c) (same-both (sure-count.same r) (sure-count.same c) ∙ e) ∙ sym (not-sized r c e)

-- ---- a header, and a node's parts
pub sure-header : Sure capped_header grid_range
unfolding grid_range
sure-header =
    record {
      same = λ g. same-both (same-both (same-both (sure-latitude.same g.latitude) (sure-longitude.same g.longitude)) (size_same g.rows g.columns)) (sure-mesh.same g.mesh);
      kept =
          λ g e.
          let m = both (latitude_range g.latitude && longitude_range g.longitude && size_range g.rows g.columns) (mesh_range g.mesh) e in
          let s = both (latitude_range g.latitude && longitude_range g.longitude) (size_range g.rows g.columns) m.0 in
          let a = both (latitude_range g.latitude) (longitude_range g.longitude) s.0 in
          let k = size-kept g.rows g.columns s.1 in
          rw (sure-latitude.kept g.latitude a.0, sure-longitude.kept g.longitude a.1, k.0, k.1, sure-mesh.kept g.mesh m.1);
    }

pub sure-parts : Sure capped_parts parts_range
unfolding parts_range
sure-parts =
    record {
      same = λ p. same-both (same-both (sure-part.same p.east) (sure-part.same p.north)) (sure-part.same p.up);
      kept =
          λ p e.
          let u = both (part_range p.east && part_range p.north) (part_range p.up) e in
          let a = both (part_range p.east) (part_range p.north) u.0 in
          rw (sure-part.kept p.east a.0, sure-part.kept p.north a.1, sure-part.kept p.up u.1);
    }
