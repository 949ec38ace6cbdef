-- What the ranges of this projection say of whole numbers: parameters one by one, an angle used less a full turn, differences of longitudes. Assumes nothing.
use mathlib.Core.Path.{◌≡◌, refl, sym, ap, ◌∙◌, subst}
use mathlib.Core.Bool.{Bool, true, false, ◌&&◌, ◌||◌}
use Prim.Native.Nat.{ℕ, ◌-◌, ◌^◌, ◌≤◌}
use native.Mathlib.Omega.{arith}
use lib.IntN.{ℤ, pos, negsuc, neg_ℤ, nat_abs, ◌+ℤ◌, ◌-ℤ◌}
use lib.Dec.{T, leb}
use lib.Ieee.{binary64, in_float}
use mir.Syntax.{w64}
use mir.Val.{SFits}
use Rattle.refusal.specs.Order.{pick}
use Rattle.ranges.specs.Ranges.{within, ellipsoid_range, longitude_range, offset_range}
use Rattle.ranges.proofs.Ranges.{both, bounds, inside, natural, natural-holds}
use Rattle.rounding.proofs.Zn as zn
use Rattle.rounding.proofs.Zn.{◌⊕◌, ◌⊖◌, le, unle}
use Rattle.bounds.proofs.Zero.{Upto}
use Rattle.angle.proofs.Wholes as wholes
use Rattle.oblique_mercator.specs.Parameters.{centre_range, past_turn, angle_range, reduced, centre_scale_range, parameters_range}
use Rattle.oblique_mercator.specs.declared.Parameters.{Parameters}

-- ---- the parameters one by one
pub record Ranged (p : Parameters) : Type 0 where
  pub ellipsoid : ellipsoid_range p.ellipsoid ≡ true
  pub latitude : centre_range p.latitude ≡ true
  pub longitude : longitude_range p.longitude ≡ true
  pub azimuth : angle_range p.azimuth ≡ true
  pub rectified : angle_range p.rectified ≡ true
  pub scale : centre_scale_range p.scale ≡ true
  pub easting : offset_range p.false_easting ≡ true
  pub northing : offset_range p.false_northing ≡ true

eight : (a b c d e f g h : Bool) → (a && b && c && d && e && f && g && h) ≡ true
    → (a ≡ true) × (b ≡ true) × (c ≡ true) × (d ≡ true) × (e ≡ true) × (f ≡ true) × (g ≡ true) × (h ≡ true)
eight a b c d e f g h t =
    let t7 = both (a && b && c && d && e && f && g) h t in
    let t6 = both (a && b && c && d && e && f) g t7.0 in
    let t5 = both (a && b && c && d && e) f t6.0 in
    let t4 = both (a && b && c && d) e t5.0 in
    let t3 = both (a && b && c) d t4.0 in
    let t2 = both (a && b) c t3.0 in
    let t1 = both a b t2.0 in
    (t1.0, t1.1, t2.1, t3.1, t4.1, t5.1, t6.1, t7.1)

pub ranged : (p : Parameters) → parameters_range p ≡ true → Ranged p
unfolding parameters_range
ranged p h =
    let t = eight (ellipsoid_range p.ellipsoid) (centre_range p.latitude) (longitude_range p.longitude) (angle_range p.azimuth) (angle_range p.rectified) (centre_scale_range p.scale) (offset_range p.false_easting) (offset_range p.false_northing) h in
    record {
      ellipsoid = t.0;
      latitude = t.1;
      longitude = t.2;
      azimuth = t.3;
      rectified = t.4;
      scale = t.5;
      easting = t.6;
      northing = t.7;
    }

-- ---- sizes
pub record Between (a b : ℕ) (z : ℤ) : Type 0 where
  pub low : a ≤ nat_abs z
  pub high : nat_abs z ≤ b

pub sized-upto : (b : ℕ) (z : ℤ) → nat_abs z ≤ b → Upto b z
sized-upto b (pos n) h = h
sized-upto b (negsuc n) h = h

pub floats : (b : ℕ) (z : ℤ) → T (leb b (2 ^ 53)) → nat_abs z ≤ b → T (in_float binary64 z)
floats b z t h = wholes.in-float b z t (sized-upto b z h)

-- an angle of 30 to 60 degrees, to either side
pub reduced-between : (z : ℤ) → angle_range z ≡ true → Between 10800000000 21600000000 (reduced z)
unfolding reduced
reduced-between z h = go (past_turn z) refl h
  where
    east : within (pos 10800000000) z (pos 21600000000) ≡ true → Between 10800000000 21600000000 z
    east e =
        let p = natural 10800000000 z 21600000000 e in
        subst (λ (y : ℤ). Between 10800000000 21600000000 y) (sym p.is) (record { low = p.low; high = p.high })

    west : past_turn z ≡ true → Between 10800000000 21600000000 (z -ℤ pos 129600000000)
    west e =
        let p = natural 108000000000 z 118800000000 e in
        let l = p.low in
        let m = p.high in
        let is : z -ℤ pos 129600000000 ≡ neg_ℤ (pos (129600000000 - p.n)) = ap (λ (y : ℤ). y -ℤ pos 129600000000) p.is ∙ zn.eq (zn.k p.n ⊖ zn.k 129600000000) (zn.neg (zn.k (129600000000 - p.n))) (omega arith) in
        let a = zn.abs_neg (pos (129600000000 - p.n)) in
        subst (λ (y : ℤ). Between 10800000000 21600000000 y) (sym is) (record { low = omega arith; high = omega arith })

    go : (b : Bool) → past_turn z ≡ b → (within (pos 10800000000) z (pos 21600000000) || b) ≡ true → Between 10800000000 21600000000 (pick b (z -ℤ pos 129600000000) z)
    go true e f = west e
    go false e f = east (none (within (pos 10800000000) z (pos 21600000000)) f)
      where
        none : (a : Bool) → (a || false) ≡ true → a ≡ true
        none true q = refl
        none false q = q

pub reduced-fits : (z : ℤ) → angle_range z ≡ true → SFits w64 (reduced z)
reduced-fits z h = wholes.fits 21600000000 (reduced z) tt (sized-upto 21600000000 (reduced z) (reduced-between z h).high)

-- ---- longitudes
pub apart : (a b : ℤ) → longitude_range a ≡ true → longitude_range b ≡ true → nat_abs (a -ℤ b) ≤ 7560000000
apart a b h k =
    let p = bounds (pos 35640000000) a (pos 43200000000) h in
    let q = bounds (pos 35640000000) b (pos 43200000000) k in
    let x = unle p.0 (zn.k 35640000000) (zn.v a) in
    let y = unle p.1 (zn.v a) (zn.k 43200000000) in
    let s = unle q.0 (zn.k 35640000000) (zn.v b) in
    let t = unle q.1 (zn.v b) (zn.k 43200000000) in
    zn.abs (zn.v a ⊖ zn.v b) (omega arith) (omega arith)

pub apart_fits : (a b : ℤ) → longitude_range a ≡ true → longitude_range b ≡ true → SFits w64 (a -ℤ b)
apart_fits a b h k = wholes.fits 7560000000 (a -ℤ b) tt (sized-upto 7560000000 (a -ℤ b) (apart a b h k))

pub west-end : longitude_range (pos 35640000000) ≡ true
west-end = natural-holds 35640000000 35640000000 43200000000 (omega arith) (omega arith)

pub east-end : longitude_range (pos 43200000000) ≡ true
east-end = natural-holds 35640000000 43200000000 43200000000 (omega arith) (omega arith)

-- a longitude less the centre's, tested between the ends less the centre's
pub moved : (c d : ℤ) → within (pos 35640000000 -ℤ c) d (pos 43200000000 -ℤ c) ≡ longitude_range (d +ℤ c)
moved c d = same (within (pos 35640000000 -ℤ c) d (pos 43200000000 -ℤ c)) (longitude_range (d +ℤ c)) there back
  where
    same : (a b : Bool) → (a ≡ true → b ≡ true) → (b ≡ true → a ≡ true) → a ≡ b
    same true b f g = sym (f refl)
    same false true f g = g refl
    same false false f g = refl

    there : within (pos 35640000000 -ℤ c) d (pos 43200000000 -ℤ c) ≡ true → longitude_range (d +ℤ c) ≡ true
    there e =
        let p = bounds (pos 35640000000 -ℤ c) d (pos 43200000000 -ℤ c) e in
        let x = unle p.0 (zn.k 35640000000 ⊖ zn.v c) (zn.v d) in
        let y = unle p.1 (zn.v d) (zn.k 43200000000 ⊖ zn.v c) in
        inside (pos 35640000000) (d +ℤ c) (pos 43200000000) (le (zn.k 35640000000) (zn.v d ⊕ zn.v c) (omega arith)) (le (zn.v d ⊕ zn.v c) (zn.k 43200000000) (omega arith))

    back : longitude_range (d +ℤ c) ≡ true → within (pos 35640000000 -ℤ c) d (pos 43200000000 -ℤ c) ≡ true
    back e =
        let p = bounds (pos 35640000000) (d +ℤ c) (pos 43200000000) e in
        let x = unle p.0 (zn.k 35640000000) (zn.v d ⊕ zn.v c) in
        let y = unle p.1 (zn.v d ⊕ zn.v c) (zn.k 43200000000) in
        inside (pos 35640000000 -ℤ c) d (pos 43200000000 -ℤ c) (le (zn.k 35640000000 ⊖ zn.v c) (zn.v d) (omega arith)) (le (zn.v d) (zn.k 43200000000 ⊖ zn.v c) (omega arith))

pub longitude-fits : (z : ℤ) → longitude_range z ≡ true → SFits w64 z
longitude-fits z h = wholes.fits 43200000000 z tt (wholes.natural-upto (natural 35640000000 z 43200000000 h))
