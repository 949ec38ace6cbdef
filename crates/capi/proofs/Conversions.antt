-- The two conversions are one but for the library's call. Assumes nothing.
use borrow.Author.Tests.{eqb-true}
use mathlib.Core.Path.{◌≡◌, refl, sym, ◌∙◌, ap, ap₂}
use mathlib.Core.Bool.{Bool, true, false, ◌&&◌}
use mathlib.Core.List.{List}
use Prim.Native.Nat.{ℕ, ◌%◌}
use native.Mathlib.Omega.{arith}
use lib.Dec.{eqb}
use lib.IntN.{ℤ, pos}
use lib.ListN.{length}
use Rattle.chain.specs.declared.Point.{Point}
use Rattle.chain.specs.declared.Chain.{Chain}
use Rattle.chain.specs.Convert.{Answer}
use Rattle.capi.specs.Outcome.{Returns}
use Rattle.chain.specs.Numbers.{chain_from}
use Rattle.capi.specs.Chains.{point_from, whole_steps}
use Rattle.capi.specs.Calls.{of_answer, conversion_call}
use Rattle.capi.proofs.Laws.{by, wrong}

both : (a b : Bool) → (a && b) ≡ true → (a ≡ true) × (b ≡ true)
both true b e = (refl, e)
both false b e = absurd (never e)
  where
    never : false ≡ true → ⊥
    never e = let z : ◌≡◌ {A = ℕ} 0 1 = cc in omega arith

-- a point and the room for one have seven numbers
module _ (chain point out : ℕ) (sized : whole_steps chain point out ≡ true) where
  pub sizes : (point ≡ 7) × (out ≡ 7)
  unfolding whole_steps
  sizes =
      let all = both (eqb (chain % 13) 0 && eqb point 7) (eqb out 7) sized in
      (eqb-true point 7 (both (eqb (chain % 13) 0) (eqb point 7) all.0).1, eqb-true out 7 all.1)

module _ (convert : Chain → Point → Answer) (profile : ℤ) (chain point out : List ℤ) where
  pub unsized : whole_steps (length chain) (length point) (length out) ≡ false → Returns (conversion_call convert profile chain point out) out out (pos 255)
  unfolding conversion_call
  unsized e = wrong (rw e)

  pub converted : {y : ℤ} {p : Point} {a : Answer} {after : List ℤ} {r s : ℤ}
      → whole_steps (length chain) (length point) (length out) ≡ true → y ≡ profile → p ≡ point_from point → a ≡ convert (chain_from y chain) p
      → Returns (of_answer a) out after r → s ≡ r → Returns (conversion_call convert profile chain point out) out after s
  unfolding conversion_call
  converted e f g h answered t = by answered (rw e (ap of_answer (sym (h ∙ ap₂ convert (ap (λ (y : ℤ). chain_from y chain) f) g)))) t
