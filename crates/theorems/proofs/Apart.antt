-- Two positions through one step, over its three affine fractions alone: where the step brings them at most m units apart, they were at most m + 1 apart, and
-- at most m where no coordinate enters. Forward and inverse alike. Assumes nothing.
use mathlib.Core.Path.{◌≡◌}
use Prim.Native.Nat.{ℕ, ◌+◌, ◌*◌, ◌≤◌}
use native.Mathlib.Omega.{arith}
use lib.IntN.{ℤ, nat_abs, ◌+ℤ◌, ◌-ℤ◌}
use Rattle.rounding.proofs.Zn.{v, ◌⊕◌, ◌⊖◌, abs, unabs, uneq}
use Rattle.chain.specs.declared.Position.{Position}
use Rattle.chain.specs.Parts.{Parts, part, forward_by, again, inverse_by}
use Rattle.chain.specs.Axes.{Axis, coordinate, part_on, Small}
use Rattle.chain.proofs.AxisLaws.{forward-on, again-on, inverse-on}
use Rattle.chain.proofs.StepLaws.{Off, Milds, Flats, part_apart, same-part}

-- ---- distances on one axis
-- what two sums are apart bounds what their first terms are apart, and so do two differences
gained : (x y r s : ℤ) (m e : ℕ) → nat_abs (x +ℤ r -ℤ (y +ℤ s)) ≤ m → nat_abs (r -ℤ s) ≤ e → nat_abs (x -ℤ y) ≤ m + e
gained x y r s m e h l =
    let f = unabs m h (v x ⊕ v r ⊖ (v y ⊕ v s)) in
    let g = unabs e l (v r ⊖ v s) in
    abs (v x ⊖ v y) (omega arith) (omega arith)

lost : (x y r s : ℤ) (m e : ℕ) → nat_abs (x -ℤ r -ℤ (y -ℤ s)) ≤ m → nat_abs (r -ℤ s) ≤ e → nat_abs (x -ℤ y) ≤ m + e
lost x y r s m e h l =
    let f = unabs m h (v x ⊖ v r ⊖ (v y ⊖ v s)) in
    let g = unabs e l (v r ⊖ v s) in
    abs (v x ⊖ v y) (omega arith) (omega arith)

-- and the other way about
less_by : (x y r s : ℤ) (m e : ℕ) → nat_abs (x -ℤ y) ≤ m → nat_abs (r -ℤ s) ≤ e → nat_abs (x -ℤ r -ℤ (y -ℤ s)) ≤ m + e
less_by x y r s m e h l =
    let f = unabs m h (v x ⊖ v y) in
    let g = unabs e l (v r ⊖ v s) in
    abs (v x ⊖ v r ⊖ (v y ⊖ v s)) (omega arith) (omega arith)

none_apart : {r s : ℤ} → r ≡ s → nat_abs (r -ℤ s) ≤ 0
none_apart {r} {s} e = let f = uneq e (v r) (v s) in abs (v r ⊖ v s) (omega arith) (omega arith)

-- ---- a step brings two positions closer by little
pub record Spreads (f : Position → Position) : Type 0 where
  pub on : (p q : Position) (m e L : ℕ) → Off m (f p) (f q) → Off e p q → e ≤ 8499 * (L + 1) → Off (m + (L + 1)) p q

-- two positions that are nowhere far apart, and m ≤ 7 apart after the step, were at most m + 1 apart: 1,280,000,000,000 becomes 150,605,954, 17,721, 3 and 1
pub spread : (f : Position → Position) → Spreads f → (p q : Position) (m : ℕ) → Off 1280000000000 p q → m ≤ 7 → Off m (f p) (f q) → Off (m + 1) p q
spread f s p q m wide m≤7 h =
    s.on p q m (m + (2 + 1)) 0 h
    (s.on p q m (m + (17720 + 1)) 2 h
    (s.on p q m (m + (150605953 + 1)) 17720 h
    (s.on p q m 1280000000000 150605953 h wide (omega arith)) (omega arith)) (omega arith)) (omega arith)

-- no coordinate over 640,000,000,000: none over 1,280,000,000,000 apart
pub small-off : (p q : Position) → Small 640000000000 p → Small 640000000000 q → Off 1280000000000 p q
small-off p q h l = record { on = λ i. apart (coordinate i p) (coordinate i q) (h.on i) (l.on i) }
  where
    apart : (x y : ℤ) → nat_abs x ≤ 640000000000 → nat_abs y ≤ 640000000000 → nat_abs (x -ℤ y) ≤ 1280000000000
    apart x y h l =
        let f = unabs 640000000000 h (v x) in
        let g = unabs 640000000000 l (v y) in
        abs (v x ⊖ v y) (omega arith) (omega arith)

module _ (t : Parts) (mild : Milds t) where
  -- parts of positions e apart
  parts-apart : (p q : Position) (e L : ℕ) (i : Axis) → Off e p q → e ≤ 8500 * (L + 1) → nat_abs (part (part_on i t) p -ℤ part (part_on i t) q) ≤ L + 1
  parts-apart p q e L i h l = part_apart (part_on i t) p q e L (mild.on i) h l

  pub forward-spreads : Spreads (forward_by t)
  forward-spreads = record {
    on = λ p q m e L h o l. record {
      on = λ i. gained (coordinate i p) (coordinate i q) (part (part_on i t) p) (part (part_on i t) q) m (L + 1)
          (rw (forward-on i t p, forward-on i t q) at (h.on i)) (parts-apart p q e L i o (omega arith));
    };
  }

  -- candidates of the inverse from two positions
  again-apart : (p q c d : Position) (m e L : ℕ) → Off m p q → Off e c d → e ≤ 8500 * (L + 1) → Off (m + (L + 1)) (again t p c) (again t q d)
  again-apart p q c d m e L h o l = record {
    on = λ i. rw (again-on i t p c, again-on i t q d)
        (less_by (coordinate i p) (coordinate i q) (part (part_on i t) c) (part (part_on i t) d) m (L + 1) (h.on i) (parts-apart c d e L i o l));
  }

  pub inverse-spreads : Spreads (inverse_by t)
  inverse-spreads = record {
    on = λ p q m e L h o l.
        let c = again-apart p q p q e e L o o (omega arith) in
        let d = again-apart p q (again t p p) (again t q q) e (e + (L + 1)) L o c (omega arith) in
        record {
          on = λ i. lost (coordinate i p) (coordinate i q) (part (part_on i t) (again t p (again t p p))) (part (part_on i t) (again t q (again t q q))) m (L + 1)
              (rw (inverse-on i t p, inverse-on i t q) at (h.on i))
              (parts-apart (again t p (again t p p)) (again t q (again t q q)) (e + (L + 1)) L i d (omega arith));
        };
  }

-- ---- where no coordinate enters, a step brings nothing closer
module _ (t : Parts) (flat : Flats t) where
  pub forward-keeps : (p q : Position) (m : ℕ) → Off m (forward_by t p) (forward_by t q) → Off (m + 0) p q
  forward-keeps p q m h = record {
    on = λ i. gained (coordinate i p) (coordinate i q) (part (part_on i t) p) (part (part_on i t) q) m 0
        (rw (forward-on i t p, forward-on i t q) at (h.on i)) (none_apart (same-part (part_on i t) p q (flat.on i)));
  }

  pub inverse-keeps : (p q : Position) (m : ℕ) → Off m (inverse_by t p) (inverse_by t q) → Off (m + 0) p q
  inverse-keeps p q m h =
      let c = again t p (again t p p) in
      let d = again t q (again t q q) in
      record {
        on = λ i. lost (coordinate i p) (coordinate i q) (part (part_on i t) c) (part (part_on i t) d) m 0
            (rw (inverse-on i t p, inverse-on i t q) at (h.on i)) (none_apart (same-part (part_on i t) c d (flat.on i)));
      }
