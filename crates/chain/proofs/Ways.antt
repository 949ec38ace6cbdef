-- Laws of a step taken either way by what it gains. Assumes nothing.
use mathlib.Core.Path.{◌≡◌, refl, sym, ◌∙◌, ap}
use mathlib.Core.List.{List, [], ◌∷◌, ◌++◌, reverse, reverse-append}
use Prim.Native.Nat.{ℕ, suc, ◌+◌, ◌-◌, ◌<◌, ◌≤◌}
use native.Mathlib.Omega.{arith}
use lib.IntN.{ℤ, nat_abs, ◌-ℤ◌}
use lib.ListN.{length, take, drop, get_or}
use lib.Seq.{take-suc, take_all}
use Rattle.std.proofs.lemmas.List.{drop_all, get_or-drop}
use Rattle.rounding.proofs.Zn.{v, ◌⊖◌, abs, unabs}
use Rattle.chain.specs.declared.Position.{Position}
use Rattle.chain.specs.Parts.{Parts, gain, plus, minus, forward_by, again, inverse_by}
use Rattle.chain.specs.Axes.{Axis, on_x, on_y, on_z, coordinate, Small}
use Rattle.chain.specs.declared.Direction.{Direction}
use Rattle.chain.specs.declared.Direction.TheVariants.{Forward, Inverse}
use Rattle.chain.specs.Ways.{by_way, turns, by_turns, place, in_order}

less : (x y : ℤ) → nat_abs x ≤ 640000000000 → nat_abs y ≤ 180000000 → nat_abs (x -ℤ y) ≤ 650000000000
less x y h l =
    let f = unabs 640000000000 h (v x) in
    let g = unabs 180000000 l (v y) in
    abs (v x ⊖ v y) (omega arith) (omega arith)

pub minus-small : (q g : Position) → Small 640000000000 q → Small 180000000 g → Small 650000000000 (minus q g)
unfolding minus
minus-small q g s t = record { on = on }
  where
    on : (i : Axis) → nat_abs (coordinate i (minus q g)) ≤ 650000000000
    on on_x = less q.x g.x (s.on on_x) (t.on on_x)
    on on_y = less q.y g.y (s.on on_y) (t.on on_y)
    on on_z = less q.z g.z (s.on on_z) (t.on on_z)

-- a step forward, by what is gained
pub forward-is : (t : Parts) (p g r : Position) → g ≡ gain t p → r ≡ plus p g → r ≡ forward_by t p
unfolding forward_by
forward-is t p g r e f = f ∙ ap (plus p) e

-- a turn more
pub turn-is : (t : Parts) (q c g r : Position) (n m : ℕ) → c ≡ turns t q n → g ≡ gain t c → r ≡ minus q g → m ≡ n + 1 → r ≡ turns t q m
unfolding again
turn-is t q c g r n m e f h k = let one : m ≡ suc n = omega arith in rw one (h ∙ ap (minus q) (f ∙ ap (gain t) e))

pub three-turns : (d : Direction) (t : Parts) (p : Position) → by_turns d 3 t p ≡ by_way d t p
unfolding inverse_by
three-turns Forward t p = refl
three-turns Inverse t p = refl

-- ---- what is left to go by after so many
abbrev pub rest : {A : Type 0} → Direction → List A → ℕ → List A
rest Forward l gone = drop gone l
rest Inverse l gone = reverse (take (length l - gone) l)

pub rest_all : {A : Type 0} (d : Direction) (l : List A) → rest d l 0 ≡ in_order d l
rest_all Forward l = refl
rest_all Inverse l = ap reverse (take_all (length l - 0) l (omega arith))

pub rest_none : {A : Type 0} (d : Direction) (l : List A) (gone : ℕ) → length l ≤ gone → rest d l gone ≡ []
rest_none Forward l gone h = drop_all gone l h
rest_none Inverse l gone h = let e : length l - gone ≡ 0 = omega arith in rw e refl

pub rest_more : {A : Type 0} (d : Direction) (l : List A) (x : A) (gone : ℕ) → gone < length l
    → drop (place d (length l) gone) l ≡ x ∷ drop (place d (length l) gone + 1) l
    → rest d l gone ≡ x ∷ rest d l (gone + 1)
rest_more Forward l x gone h e = e
rest_more {A} Inverse l x gone h e =
    let k : ℕ = length l - 1 - gone in
    let some : length l - gone ≡ suc k = omega arith in
    let less : length l - (gone + 1) ≡ k = omega arith in
    let same : k + 0 ≡ k = omega arith in
    let x_is : get_or l k x ≡ x = ap (λ (n : ℕ). get_or l n x) (sym same) ∙ sym (get_or-drop k l 0 x) ∙ ap (λ (m : List A). get_or m 0 x) e in
    rw (some, less) (
    ap reverse (take-suc l k x (omega arith) ∙ ap (λ (y : A). take k l ++ (y ∷ [])) x_is)
    ∙ reverse-append (take k l) (x ∷ [])
    )
