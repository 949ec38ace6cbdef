-- What the tests of ranges say of positions, datums and epochs, once they hold. Assumes nothing.
use mathlib.Core.Path.{◌≡◌, refl, sym, ap, ap₂, ◌∙◌}
use mathlib.Core.Bool.{Bool, true, false, not, ◌&&◌}
use Prim.Native.Nat.{◌≤◌}
use lib.IntN.{ℤ, pos, neg_ℤ, nat_abs}
use Rattle.std.specs.Ordering.{int_eq}
use Rattle.std.proofs.lemmas.Bool.Decides.{same_from_decides, Decides-int_eq}
use lib.Dec.{lit≤}
use Rattle.ranges.specs.Ranges.{equal, area_x, area_y, area_z}
use Rattle.ranges.proofs.Ranges.{both, all, sized, equal_is, equal-self}
use Rattle.chain.specs.declared.Position.{Position}
use Rattle.chain.specs.declared.Realization.{Realization}
use Rattle.chain.specs.Faults.{same_realization, in_area}
use Rattle.chain.specs.Axes.{Axis, on_x, on_y, on_z, coordinate, Small}

pub same-is : (r t : Realization) → same_realization r t ≡ true → (r.datum ≡ t.datum) × (r.epoch ≡ t.epoch)
unfolding same_realization
same-is r t e =
    let f = both (equal r.datum t.datum) (equal r.epoch t.epoch) e in
    (equal_is r.datum t.datum f.0, equal_is r.epoch t.epoch f.1)

pub same_self : (r : Realization) → same_realization r r ≡ true
unfolding same_realization
same_self r = rw (equal-self r.datum, equal-self r.epoch)

-- what `==` answers
pub equal_numbers : (a b : ℤ) → int_eq a b ≡ equal a b
equal_numbers a b = same_from_decides (int_eq a b) (equal a b) (Decides-int_eq a b) (equal_is a b, λ e. ap (equal a) (sym e) ∙ equal-self a)

same_numbers : (r t : Realization) → (int_eq r.datum t.datum && int_eq r.epoch t.epoch) ≡ same_realization r t
unfolding same_realization
same_numbers r t = ap₂ ◌&&◌ (equal_numbers r.datum t.datum) (equal_numbers r.epoch t.epoch)

pub one_place : (r t : Realization) (b : Bool) → b ≡ (int_eq r.datum t.datum && int_eq r.epoch t.epoch) → same_realization r t ≡ b
one_place r t b e = sym (e ∙ same_numbers r t)

pub two_places : (r t : Realization) (b : Bool) → b ≡ not (int_eq r.datum t.datum && int_eq r.epoch t.epoch) → same_realization r t ≡ not b
two_places r t b e = sym (same_numbers r t) ∙ not-not _ ∙ ap not (sym e)
  where
    not-not : (a : Bool) → a ≡ not (not a)
    not-not true = refl
    not-not false = refl

-- a position in the area is not too large for any step
pub area_small : (p : Position) → in_area p ≡ true → Small 640000000000 p
unfolding in_area
area_small p e = record { on = on }
  where
    f : (area_x p.x ≡ true) × (area_y p.y ≡ true) × (area_z p.z ≡ true)
    f = all (area_x p.x) (area_y p.y) (area_z p.z) e

    on : (i : Axis) → nat_abs (coordinate i p) ≤ 640000000000
    on on_x = sized (neg_ℤ (pos 330000000000)) p.x (neg_ℤ (pos 90000000000)) 640000000000 (lit≤ tt) (lit≤ tt) f.0
    on on_y = sized (pos 540000000000) p.y (pos 640000000000) 640000000000 (lit≤ tt) (lit≤ tt) f.1
    on on_z = sized (pos 0) p.z (pos 90000000000) 640000000000 (lit≤ tt) (lit≤ tt) f.2
