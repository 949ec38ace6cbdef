-- Two texts are the same bytes or they are not. Assumes nothing.
use mathlib.Core.Path.{◌≡◌, refl, ap₂, sym}
use mathlib.Core.Bool.{Bool, true, false}
use mathlib.Core.List.{List, [], ◌∷◌}
use Prim.Native.Nat.{ℕ}
use native.Mathlib.Omega.{arith}
use lib.Dec.{eqb}
use borrow.Author.Tests.{eqb-true, eq-eqb}
use Rattle.refusal.specs.Order.{pick}
use Rattle.line.specs.Later.{same_bytes}

same-cons : (a b : ℕ) (s t : List ℕ) → (same_bytes s t ≡ true → s ≡ t) → (x : Bool) → eqb a b ≡ x → pick x (same_bytes s t) false ≡ true → a ∷ s ≡ b ∷ t
same-cons a b s t f true e h = ap₂ (λ (n : ℕ) (l : List ℕ). n ∷ l) (eqb-true a b e) (f h)
same-cons a b s t f false e h = absurd (let z : ◌≡◌ {A = ℕ} 0 1 = cc in omega arith)

pub same_true : (s t : List ℕ) → same_bytes s t ≡ true → s ≡ t
unfolding same_bytes same-cons
same_true [] [] h = refl
same_true [] (b ∷ t) h = absurd (let z : ◌≡◌ {A = ℕ} 0 1 = cc in omega arith)
same_true (a ∷ s) [] h = absurd (let z : ◌≡◌ {A = ℕ} 0 1 = cc in omega arith)
same_true (a ∷ s) (b ∷ t) h = same-cons a b s t (same_true s t) (eqb a b) refl h

same_self : (s : List ℕ) → same_bytes s s ≡ true
unfolding same_bytes
same_self [] = refl
same_self (a ∷ s) = rw (eq-eqb a a refl) (same_self s)

pub same-made : (s t : List ℕ) → s ≡ t → same_bytes s t ≡ true
same-made s t e = rw (sym e) (same_self s)

pub same_false : (s t : List ℕ) → same_bytes s t ≡ false → s ≡ t → ⊥
same_false s t e q = let u : same_bytes s t ≡ true = same-made s t q in let z : ◌≡◌ {A = ℕ} 0 1 = cc in omega arith

pub same-other : (s t : List ℕ) → (s ≡ t → ⊥) → same_bytes s t ≡ false
same-other s t ne = go (same_bytes s t) refl
  where
    go : (x : Bool) → same_bytes s t ≡ x → same_bytes s t ≡ false
    go false e = e
    go true e = absurd (ne (same_true s t e))

pub same? : (s t : List ℕ) → Dec (s ≡ t)
same? s t = go (same_bytes s t) refl
  where
    go : (x : Bool) → same_bytes s t ≡ x → Dec (s ≡ t)
    go true e = yes (same_true s t e)
    go false e = no (same_false s t e)
