-- Laws of the bilinear rule, over every mesh: exact at a node, between the least and the greatest of the four nodes, and one value on an edge that two cells
-- share. Assumes nothing.
use mathlib.Core.Path.{◌≡◌, refl, sym, ◌∙◌, ap, ap₂, subst}
use Prim.Native.Nat.{ℕ, ◌+◌, ◌-◌, ◌*◌, ◌<◌, ◌≤◌}
use native.Mathlib.Nat as NatL
use native.Mathlib.Omega.{arith}
use lib.Dec.{ltb→lt, le→leb}
use lib.IntN.{ℤ, pos, negsuc, nat_abs, ◌+ℤ◌, ◌-ℤ◌, ◌*ℤ◌}
use lib.Signed.{◌≤ℤ◌, ◌<ℤ◌}
use Rattle.rounding.specs.Nearest.{away, rounded}
use Rattle.rounding.proofs.Zn.{P, N, v, k, ◌⊕◌, ◌⊖◌, ◌⊗◌, le, unle, eq, pos-abs, mul-le, add-le, abs-mul}
use Rattle.rounding.proofs.Roundings.{rounded-exact, rounded-least, rounded-most, rounded-size}
use Rattle.velocity_grid.specs.Bilinear.{blend, weighted_sum, bilinear}
use Rattle.velocity_grid.specs.declared.Corners.{Corners}

-- ---- sizes
module _ {m x : ℤ} (from : pos 0 ≤ℤ x) (to : x ≤ℤ m) where
  -- x and what is left of m are m together
  pub parted : nat_abs (m -ℤ x) + nat_abs x ≡ nat_abs m
  parted =
      let h = unle from (k 0) (v x) in
      let t = unle to (v x) (v m) in
      let a = pos-abs (le (k 0) (v m ⊖ v x) (omega arith)) (v m ⊖ v x) in
      let b = pos-abs from (v x) in
      let c = pos-abs (le (k 0) (v m) (omega arith)) (v m) in
      omega arith

  pub blend-size : (a b : ℤ) (A : ℕ) → nat_abs a ≤ A → nat_abs b ≤ A → nat_abs (blend m x a b) ≤ A * nat_abs m
  unfolding blend
  blend-size a b A h l =
      let s = add-le (a *ℤ (m -ℤ x)) (b *ℤ x) (A * nat_abs (m -ℤ x)) (A * nat_abs x) (mul-le a (m -ℤ x) A (nat_abs (m -ℤ x)) h (NatL.le_refl _)) (mul-le b x A (nat_abs x) l (NatL.le_refl _)) in
      let e : A * nat_abs (m -ℤ x) + A * nat_abs x ≡ A * nat_abs m = sym (NatL.mul-add A (nat_abs (m -ℤ x)) (nat_abs x)) ∙ ap (λ (n : ℕ). A * n) parted in
      omega arith

-- ---- along an edge: its two ends, and between its ends
pub blend-start : (m a b : ℤ) → blend m (pos 0) a b ≡ a *ℤ m
unfolding blend
blend-start m a b = eq (v a ⊗ (v m ⊖ k 0) ⊕ v b ⊗ k 0) (v a ⊗ v m) (omega arith)

pub blend-end : (m a b : ℤ) → blend m m a b ≡ b *ℤ m
unfolding blend
blend-end m a b = eq (v a ⊗ (v m ⊖ v m) ⊕ v b ⊗ v m) (v b ⊗ v m) (omega arith)

-- x is what is past the first end, w what is left to the second
module _ (w x : ℕ) (l a b : ℤ) where
  above : l ≤ℤ a → l ≤ℤ b → (l *ℤ pos (w + x)) ≤ℤ blend (pos (w + x)) (pos x) a b
  unfolding blend
  above h g =
      let p = NatL.mul-le-mul_right w (unle h (v l) (v a)) in
      let q = NatL.mul-le-mul_right x (unle g (v l) (v b)) in
      le (v l ⊗ k (w + x)) (v a ⊗ (k (w + x) ⊖ k x) ⊕ v b ⊗ k x) (omega arith)

  below : a ≤ℤ l → b ≤ℤ l → blend (pos (w + x)) (pos x) a b ≤ℤ (l *ℤ pos (w + x))
  unfolding blend
  below h g =
      let p = NatL.mul-le-mul_right w (unle h (v a) (v l)) in
      let q = NatL.mul-le-mul_right x (unle g (v b) (v l)) in
      le (v a ⊗ (k (w + x) ⊖ k x) ⊕ v b ⊗ k x) (v l ⊗ k (w + x)) (omega arith)

module _ (n x : ℕ) (x≤n : x ≤ n) (l a b : ℤ) where
  split : (n - x) + x ≡ n
  split = omega arith

  blend-least : l ≤ℤ a → l ≤ℤ b → (l *ℤ pos n) ≤ℤ blend (pos n) (pos x) a b
  blend-least h g = subst (λ (i : ℕ). (l *ℤ pos i) ≤ℤ blend (pos i) (pos x) a b) split (above (n - x) x l a b h g)

  blend-most : a ≤ℤ l → b ≤ℤ l → blend (pos n) (pos x) a b ≤ℤ (l *ℤ pos n)
  blend-most h g = subst (λ (i : ℕ). blend (pos i) (pos x) a b ≤ℤ (l *ℤ pos i)) split (below (n - x) x l a b h g)

-- ---- the value in a cell, on a mesh of n
squared : (n : ℕ) (z : ℤ) → (z *ℤ pos n) *ℤ pos n ≡ z *ℤ pos (n * n)
squared n z = eq (v z ⊗ k n ⊗ k n) (v z ⊗ k (n * n)) (omega arith)

module _ (n : ℕ) (n>0 : 0 < n) where
  positive : 0 < n * n
  positive = NatL.mul-pos n>0 n>0

  -- m·m times a whole number is that number
  exact : (x y : ℤ) (c : Corners) (z : ℤ) → weighted_sum (pos n) x y c ≡ (z *ℤ pos n) *ℤ pos n → bilinear (pos n) x y c ≡ z
  unfolding bilinear
  exact x y c z e = ap (λ (i : ℤ). rounded away i (n * n)) (e ∙ squared n z) ∙ rounded-exact away positive z

  pub at-south-west : (c : Corners) → bilinear (pos n) (pos 0) (pos 0) c ≡ c.south_west
  unfolding weighted_sum
  at-south-west c = exact (pos 0) (pos 0) c c.south_west (blend-start (pos n) _ _ ∙ ap (λ (i : ℤ). i *ℤ pos n) (blend-start (pos n) c.south_west c.south_east))

  pub at-south-east : (c : Corners) → bilinear (pos n) (pos n) (pos 0) c ≡ c.south_east
  unfolding weighted_sum
  at-south-east c = exact (pos n) (pos 0) c c.south_east (blend-start (pos n) _ _ ∙ ap (λ (i : ℤ). i *ℤ pos n) (blend-end (pos n) c.south_west c.south_east))

  pub at-north-west : (c : Corners) → bilinear (pos n) (pos 0) (pos n) c ≡ c.north_west
  unfolding weighted_sum
  at-north-west c = exact (pos 0) (pos n) c c.north_west (blend-end (pos n) _ _ ∙ ap (λ (i : ℤ). i *ℤ pos n) (blend-start (pos n) c.north_west c.north_east))

  pub at-north-east : (c : Corners) → bilinear (pos n) (pos n) (pos n) c ≡ c.north_east
  unfolding weighted_sum
  at-north-east c = exact (pos n) (pos n) c c.north_east (blend-end (pos n) _ _ ∙ ap (λ (i : ℤ). i *ℤ pos n) (blend-end (pos n) c.north_west c.north_east))

  -- not below a number that no node is below, and not above one that no node is above
  module _ (x y : ℕ) (x≤n : x ≤ n) (y≤n : y ≤ n) (c : Corners) (l : ℤ) where
    pub at_least : l ≤ℤ c.south_west → l ≤ℤ c.south_east → l ≤ℤ c.north_west → l ≤ℤ c.north_east → l ≤ℤ bilinear (pos n) (pos x) (pos y) c
    unfolding bilinear weighted_sum
    at_least a b d e =
        rounded-least away positive l (weighted_sum (pos n) (pos x) (pos y) c)
        (subst (λ (i : ℤ). i ≤ℤ weighted_sum (pos n) (pos x) (pos y) c) (squared n l)
        (blend-least n y y≤n (l *ℤ pos n) _ _ (blend-least n x x≤n l c.south_west c.south_east a b) (blend-least n x x≤n l c.north_west c.north_east d e)))

    pub at_most : c.south_west ≤ℤ l → c.south_east ≤ℤ l → c.north_west ≤ℤ l → c.north_east ≤ℤ l → bilinear (pos n) (pos x) (pos y) c ≤ℤ l
    unfolding bilinear weighted_sum
    at_most a b d e =
        rounded-most away positive l (weighted_sum (pos n) (pos x) (pos y) c)
        (subst (λ (i : ℤ). weighted_sum (pos n) (pos x) (pos y) c ≤ℤ i) (squared n l)
        (blend-most n y y≤n (l *ℤ pos n) _ _ (blend-most n x x≤n l c.south_west c.south_east a b) (blend-most n x x≤n l c.north_west c.north_east d e)))

-- ---- an edge that two cells share has one value: by the ends of the edge alone
pub east-edge : (m y : ℤ) (c d : Corners) → c.south_east ≡ d.south_west → c.north_east ≡ d.north_west → bilinear m m y c ≡ bilinear m (pos 0) y d
unfolding bilinear weighted_sum
east-edge m y c d e f =
    ap (λ (i : ℤ). rounded away i (nat_abs (m *ℤ m)))
    (ap₂ (blend m y) (blend-end m c.south_west c.south_east ∙ ap (λ (i : ℤ). i *ℤ m) e ∙ sym (blend-start m d.south_west d.south_east))
    (blend-end m c.north_west c.north_east ∙ ap (λ (i : ℤ). i *ℤ m) f ∙ sym (blend-start m d.north_west d.north_east)))

pub north-edge : (m x : ℤ) (c d : Corners) → c.north_west ≡ d.south_west → c.north_east ≡ d.south_east → bilinear m x m c ≡ bilinear m x (pos 0) d
unfolding bilinear weighted_sum
north-edge m x c d e f =
    ap (λ (i : ℤ). rounded away i (nat_abs (m *ℤ m)))
    (blend-end m (blend m x c.south_west c.south_east) (blend m x c.north_west c.north_east)
    ∙ ap (λ (i : ℤ). i *ℤ m) (ap₂ (blend m x) e f)
    ∙ sym (blend-start m (blend m x d.south_west d.south_east) (blend m x d.north_west d.north_east)))

-- ---- of nodes within A, a value within A
pub bilinear-size : (m x y : ℤ) (c : Corners) (A : ℕ) → pos 0 <ℤ m → pos 0 ≤ℤ x → x ≤ℤ m → pos 0 ≤ℤ y → y ≤ℤ m
    → nat_abs c.south_west ≤ A → nat_abs c.south_east ≤ A → nat_abs c.north_west ≤ A → nat_abs c.north_east ≤ A → nat_abs (bilinear m x y c) ≤ A
unfolding bilinear weighted_sum
bilinear-size m x y c A m>0 xf xt yf yt sw se nw ne =
    let p = blend-size yf yt (blend m x c.south_west c.south_east) (blend m x c.north_west c.north_east) (A * nat_abs m) (blend-size xf xt c.south_west c.south_east A sw se) (blend-size xf xt c.north_west c.north_east A nw ne) in
    rounded-size away (square-pos m m>0) A (weighted_sum m x y c) (NatL.le_trans p (NatL.le_of_eq (NatL.mul_assoc A (nat_abs m) (nat_abs m) ∙ ap (λ (i : ℕ). A * i) (sym (abs-mul m m)))))
  where
    square-pos : (m : ℤ) → pos 0 <ℤ m → 0 < nat_abs (m *ℤ m)
    square-pos (pos n) h = let l : 0 < n = ltb→lt 0 n h.lt in NatL.mul-pos l l
    square-pos (negsuc n) h = absurd h.lt

-- the mesh squared is 1 at least
pub square-least : (m : ℤ) → pos 0 <ℤ m → pos 1 ≤ℤ (m *ℤ m)
square-least (pos n) h = let l : 0 < n = ltb→lt 0 n h.lt in record { le = le→leb 1 (n * n) (NatL.mul-pos l l) }
square-least (negsuc n) h = absurd h.lt
