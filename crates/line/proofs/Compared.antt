-- Two lines byte by byte, and two points by their names and issues.
use Rattle.std.proofs.Common.{◌≡◌, ℕ, Bool, true, false, ◌&&◌, eqb, List, [], ◌∷◌, refl, eq-eqb, ne_eqb}
use Rattle.std.specs.Str.{bytes_eq}
use Rattle.refusal.specs.Numbers as refusal
use Rattle.refusal.specs.Order.{pick}
use lib.Signed.{lt_z}
use Rattle.chain.specs.declared.Point.{Point}
use Rattle.line.specs.Later.{First, Second}
use Rattle.line.specs.Later.{same_bytes, refused_in, weighed}

-- what `==` says of two slices
pub same_is : (s t : List ℕ) → bytes_eq s t ≡ same_bytes s t
unfolding same_bytes
same_is [] [] = refl
same_is [] (b ∷ t) = refl
same_is (a ∷ s) [] = refl
same_is (a ∷ s) (b ∷ t) = go (eqb a b) (same_is s t)
  where
    go : (x : Bool) → bytes_eq s t ≡ same_bytes s t → (x && bytes_eq s t) ≡ pick x (same_bytes s t) false
    go true e = e
    go false e = refl

-- ---- two points
module _ (p q : Point) (equal : Bool) where
  pub other-high : (p.label.id.high ≡ q.label.id.high → ⊥) → refused_in 0 refusal.ids ≡ weighed p q equal
  other-high h = rw (ne_eqb p.label.id.high q.label.id.high h)

  module _ (h : p.label.id.high ≡ q.label.id.high) where
    pub other-low : (p.label.id.low ≡ q.label.id.low → ⊥) → refused_in 0 refusal.ids ≡ weighed p q equal
    other-low l = rw (eq-eqb p.label.id.high q.label.id.high h, ne_eqb p.label.id.low q.label.id.low l)

    module _ (l : p.label.id.low ≡ q.label.id.low) where
      pub second-later : lt_z p.label.issue q.label.issue ≡ true → Second ≡ weighed p q equal
      second-later a = rw (eq-eqb p.label.id.high q.label.id.high h, eq-eqb p.label.id.low q.label.id.low l, a)

      module _ (a : lt_z p.label.issue q.label.issue ≡ false) where
        pub first-later : lt_z q.label.issue p.label.issue ≡ true → First ≡ weighed p q equal
        first-later b = rw (eq-eqb p.label.id.high q.label.id.high h, eq-eqb p.label.id.low q.label.id.low l, a, b)

        pub one_line : lt_z q.label.issue p.label.issue ≡ false → equal ≡ true → First ≡ weighed p q equal
        one_line b e = rw (eq-eqb p.label.id.high q.label.id.high h, eq-eqb p.label.id.low q.label.id.low l, a, b, e)

        pub two-lines : lt_z q.label.issue p.label.issue ≡ false → equal ≡ false → refused_in 0 refusal.same ≡ weighed p q equal
        two-lines b e = rw (eq-eqb p.label.id.high q.label.id.high h, eq-eqb p.label.id.low q.label.id.low l, a, b, e)
