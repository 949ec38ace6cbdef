-- Lists of closed f64 values are equal where a computed test says so. A table that is worked out is held to its coefficients this way: a wrong one is told from the right
-- one by their numbers, where a comparison of the terms would go on and on. Assumes nothing.
use mathlib.Core.Path.{◌≡◌, refl, ap, ap₂}
use mathlib.Core.Bool.{Bool, true, false, ◌&&◌}
use mathlib.Core.List.{List, [], ◌∷◌}
use lib.Dec.{T, eqb, eqb→eq}
use lib.IntN.{ℤ, pos, negsuc}
use lib.Ieee.{Float, nan, inf, fin}
use lib.Ieee.Fits.{and_l, and_r}

abbrev same_sign : Bool → Bool → Bool
same_sign true t = t
same_sign false true = false
same_sign false false = true

abbrev same_whole : ℤ → ℤ → Bool
same_whole (pos a) (pos b) = eqb a b
same_whole (pos a) (negsuc b) = false
same_whole (negsuc a) (pos b) = false
same_whole (negsuc a) (negsuc b) = eqb a b

abbrev same : Float → Float → Bool
same (fin s m e) (fin t n d) = same_sign s t && (eqb m n && same_whole e d)
same (fin s m e) (inf t) = false
same (fin s m e) nan = false
same (inf s) y = false
same nan y = false

abbrev pub sames : List Float → List Float → Bool
sames [] [] = true
sames [] (y ∷ ys) = false
sames (x ∷ xs) [] = false
sames (x ∷ xs) (y ∷ ys) = same x y && sames xs ys

sign-is : (s t : Bool) → T (same_sign s t) → s ≡ t
sign-is true true h = refl
sign-is true false h = absurd h
sign-is false true h = absurd h
sign-is false false h = refl

whole_is : (a b : ℤ) → T (same_whole a b) → a ≡ b
whole_is (pos a) (pos b) h = ap pos (eqb→eq a b h)
whole_is (pos a) (negsuc b) h = absurd h
whole_is (negsuc a) (pos b) h = absurd h
whole_is (negsuc a) (negsuc b) h = ap negsuc (eqb→eq a b h)

same-is : (x y : Float) → T (same x y) → x ≡ y
same-is (fin s m e) (fin t n d) h =
    let k : T (eqb m n && same_whole e d) = and_r (same_sign s t) (eqb m n && same_whole e d) h in
    let p : s ≡ t = sign-is s t (and_l (same_sign s t) (eqb m n && same_whole e d) h) in
    let q : m ≡ n = eqb→eq m n (and_l (eqb m n) (same_whole e d) k) in
    let r : e ≡ d = whole_is e d (and_r (eqb m n) (same_whole e d) k) in
    rw (p, q, r)
same-is (fin s m e) (inf t) h = absurd h
same-is (fin s m e) nan h = absurd h
same-is (inf s) y h = absurd h
same-is nan y h = absurd h

pub sames-are : (xs ys : List Float) → T (sames xs ys) → xs ≡ ys
sames-are [] [] h = refl
sames-are [] (y ∷ ys) h = absurd h
sames-are (x ∷ xs) [] h = absurd h
sames-are (x ∷ xs) (y ∷ ys) h = ap₂ ◌∷◌ (same-is x y (and_l (same x y) (sames xs ys) h)) (sames-are xs ys (and_r (same x y) (sames xs ys) h))
