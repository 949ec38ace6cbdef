-- A point on a made origin is the point on the origin's numbers: what is shown of `cassini_of` holds of every origin that `make_origin` answers. Assumes nothing.
use mathlib.Core.Path.{◌≡◌, refl, sym, ap, ◌∙◌}
use Prim.Native.Nat.{ℕ, zero, suc}
use native.Mathlib.Omega.{arith}
use lib.IntN.{ℤ}
use Rattle.std.specs.Prelude.{Ok, Err}
use Rattle.refusal.specs.Order.{first, unless}
use Rattle.angle.specs.Ranges.{origin_tests, angles_and_meridian_tests, origin_fault}
use Rattle.angle.specs.Cassini.{origin_made, origin_of, cassini_at, cassini_from_of, cassini_of, in_millimetres, cassini_millimetres_from_of, cassini_millimetres_of}
use Rattle.angle.specs.declared.Origin.{Origin}
use Rattle.angle.specs.declared.OriginNumbers.{OriginNumbers}
use Rattle.refusal.proofs.Orders.{passed, stop, on, unless-some}

-- a refusal has its number, and there is one; an origin that is made is the one that was asked, and there is no fault
refused : (f n : ℕ) (x : Origin) → unless f Err (Ok x) ≡ Err n → (f ≡ n) × (f ≡ 0 → ⊥)
refused zero n x h = let z : ◌≡◌ {A = ℕ} 0 1 = cc in absurd (omega arith)
refused (suc f) n x h = (cc, λ (z : suc f ≡ 0). omega arith)

answered : (f : ℕ) (x y : Origin) → unless f Err (Ok x) ≡ Ok y → (f ≡ 0) × (x ≡ y)
answered zero x y h = (refl, cc)
answered (suc f) x y h = let z : ◌≡◌ {A = ℕ} 0 1 = cc in absurd (omega arith)

module _ (o : OriginNumbers) (lat lon : ℤ) where
  pub by-refusal : (n : ℕ) → origin_of o ≡ Err n → Err n ≡ cassini_of o lat lon
  unfolding origin_of origin_fault cassini_of
  by-refusal n h =
      let p = refused (first (origin_tests o)) n (origin_made o) h in
      ap Err (sym p.0)
      ∙ sym (unless-some (first (origin_tests o)) Err (Ok (cassini_at (origin_made o) lat lon)) p.1)
      ∙ ap (λ (f : ℕ). unless f Err (Ok (cassini_at (origin_made o) lat lon))) (sym (stop (origin_tests o) (angles_and_meridian_tests o.longitude lat lon) p.1))

  pub by-origin : (x : Origin) → origin_of o ≡ Ok x → cassini_from_of x lat lon ≡ cassini_of o lat lon
  unfolding origin_of origin_fault origin_made cassini_from_of cassini_of
  by-origin x h =
      let p = answered (first (origin_tests o)) (origin_made o) x h in
      ap (λ (y : Origin). cassini_from_of y lat lon) (sym p.1)
      ∙ ap (λ (f : ℕ). unless f Err (Ok (cassini_at (origin_made o) lat lon))) (sym (on (origin_tests o) (angles_and_meridian_tests o.longitude lat lon) (passed (origin_tests o) tt p.0)))

  -- the same in whole millimetres
  pub by-refusal-millimetres : (n : ℕ) → origin_of o ≡ Err n → Err n ≡ cassini_millimetres_of o lat lon
  unfolding cassini_millimetres_of in_millimetres
  by-refusal-millimetres n h = ap in_millimetres (by-refusal n h)

  pub by-origin-millimetres : (x : Origin) → origin_of o ≡ Ok x → cassini_millimetres_from_of x lat lon ≡ cassini_millimetres_of o lat lon
  unfolding cassini_millimetres_from_of cassini_millimetres_of
  by-origin-millimetres x h = rw (by-origin x h)

-- an origin with no fault is made
pub never-refused : (o : OriginNumbers) (n : ℕ) → origin_fault o ≡ 0 → origin_of o ≡ Err n → ⊥
unfolding origin_of
never-refused o n e q = let z : ◌≡◌ {A = ℕ} 0 1 = cc (rw e at q) in omega arith
