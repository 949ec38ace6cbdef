-- No NaN and no infinity on the way from X, Y, Z to latitude, longitude and height: for every ellipsoid and every position of the area every f64 is finite, what is
-- rounded is within its bounds, and so no rounding refuses. Each bound is one computed test over the whole area and all ellipsoids at once. Assumes nothing.
use mathlib.Core.Path.{◌≡◌, refl, sym, ap, ◌∙◌, subst}
use mathlib.Core.Bool.{true, false}
use mathlib.Core.List.{List, [], ◌∷◌}
use Prim.Native.Nat.{ℕ, suc, ◌≤◌}
use borrow.Author.Tests.{not-false}
use lib.Dec.{T, lit≤, lit<}
use lib.IntN.{ℤ, pos, negsuc, ◌+ℤ◌}
use lib.Ieee.{binary64, round, neg, div, of_int}
use lib.Ieee.Scale.{finite}
use Rattle.std.specs.Prelude.{Err}
use Rattle.refusal.specs.Order.{first, unless}
use Rattle.rounding.specs.Decimals.{whole_of}
use Rattle.refusal.proofs.Orders.{Passed, passed}
use Rattle.ranges.specs.Ranges.{area_x, area_y, area_z}
use Rattle.ranges.proofs.Ranges.{natural, all}
use Rattle.bounds.proofs.Among.{told, Ends, Among}
use Rattle.bounds.proofs.Formula.{All, none, also, tested, proved, Fine, every}
use Rattle.bounds.proofs.Zero.{ranged, told-among}
use Rattle.elementary.specs.Floats.{whole}
use Rattle.angle.specs.Units.{seconds}
use Rattle.angle.specs.Ranges.{position_tests}
use Rattle.angle.specs.Ellipsoids.{ellipsoid_of}
use Rattle.angle.specs.Geodetic.{found_at, in_ranges, from_rounded, in_angles, geodetic_units_of}
use Rattle.angle.specs.declared.Found.{Found}
use Rattle.angle.proofs.WholeAnswers.{Bound, whole-answer}
use Rattle.angle.proofs.GeodeticFormulas.{latitude_f, longitude_f, height_f, given, found-is}
use Rattle.angle.proofs.Sizes.{above, size_up_to, axis, flattening, eccentricity, shaped}
use Rattle.angle.proofs.Wholes.{negative}

-- ---- X, Y and Z of the area as f64s
x-finite : T (finite (round binary64 false 330000000000 1))
unfolding round
x-finite = tt

y-finite : T (finite (round binary64 false 640000000000 1))
unfolding round
y-finite = tt

z-finite : T (finite (round binary64 false 90000000000 1))
unfolding round
z-finite = tt

natural-among : (lo hi n : ℕ) (z : ℤ) → z ≡ pos n → lo ≤ n → n ≤ hi → T (finite (round binary64 false hi 1)) → Among (whole z) (ranged (told false) lo hi)
unfolding of_int
natural-among lo hi n z e l h f = subst (λ (y : ℤ). Among (whole y) (ranged (told false) lo hi)) (sym e) (told-among false n lo hi l h f)

negative-among : (lo hi n : ℕ) (z : ℤ) → z ≡ negsuc n → lo ≤ suc n → suc n ≤ hi → T (finite (round binary64 false hi 1)) → Among (whole z) (ranged (told true) lo hi)
unfolding of_int
negative-among lo hi n z e l h f = subst (λ (y : ℤ). Among (whole y) (ranged (told true) lo hi)) (sym e) (told-among true (suc n) lo hi l h f)

-- the ellipsoid's three and the position's three
abbrev area : List Ends
area = axis ∷ flattening ∷ eccentricity ∷ ranged (told true) 90000000000 330000000000 ∷ ranged (told false) 540000000000 640000000000 ∷ ranged (told false) 0 90000000000 ∷ []

in-area : (code X Y Z : ℤ) → Passed (position_tests code X Y Z) → All (given (ellipsoid_of code) X Y Z) area
in-area code X Y Z p =
    let e = shaped code (not-false _ p.0) in
    let a = all (area_x X) (area_y Y) (area_z Z) (not-false _ p.1.0) in
    let x = negative 89999999999 X 329999999999 a.0 in
    let y = natural 540000000000 Y 640000000000 a.1 in
    let z = natural 0 Z 90000000000 a.2 in
    also e.long
    (also e.flat
    (also e.squared
    (also (negative-among 90000000000 330000000000 x.n X x.is x.low x.high x-finite)
    (also (natural-among 540000000000 640000000000 y.n Y y.is y.low y.high y-finite)
    (also (natural-among 0 90000000000 z.n Z z.is z.low z.high z-finite) none)))))

-- ---- latitude 0 to 12 degrees, longitude 6 to 39 degrees past 90, height within 3,300,000 m
abbrev latitude_b : Ends
latitude_b = above 0 1 43200 1

abbrev longitude_b : Ends
longitude_b = above 22000 1 140000 1

abbrev height_b : Ends
height_b = size_up_to 3300000 1

latitude-test : T (tested area latitude_f latitude_b)
unfolding tested round neg div seconds
latitude-test = tt

longitude-test : T (tested area longitude_f longitude_b)
unfolding tested round neg div seconds
longitude-test = tt

height-test : T (tested area height_f height_b)
unfolding tested round neg div
height-test = tt

-- what is rounded
pub record FoundIn (f : Found) : Type 0 where
  pub latitude : Among f.latitude latitude_b
  pub longitude : Among f.longitude longitude_b
  pub height : Among f.height height_b

module _ (code X Y Z : ℤ) (h : first (position_tests code X Y Z) ≡ 0) where
  accepted : All (given (ellipsoid_of code) X Y Z) area
  accepted = in-area code X Y Z (passed (position_tests code X Y Z) tt h)

  pub found-bounded : FoundIn (found_at (ellipsoid_of code) X Y Z)
  found-bounded =
      subst FoundIn (sym (found-is (ellipsoid_of code) X Y Z))
      (record {
        latitude = proved accepted latitude_f latitude_b latitude-test;
        longitude = proved accepted longitude_f longitude_b longitude-test;
        height = proved accepted height_f height_b height-test;
      })

  -- every f64 on the way is finite
  pub all-finite : Fine (given (ellipsoid_of code) X Y Z) latitude_f × Fine (given (ellipsoid_of code) X Y Z) longitude_f × Fine (given (ellipsoid_of code) X Y Z) height_f
  all-finite = (every accepted latitude_f latitude_b latitude-test, every accepted longitude_f longitude_b longitude-test, every accepted height_f height_b height-test)

-- ---- no rounding refuses
bound-latitude : Bound 43200
unfolding round
bound-latitude = record { is = refl; unit = refl; low = lit< tt }

bound-longitude : Bound 140000
unfolding round
bound-longitude = record { is = refl; unit = refl; low = lit< tt }

bound-height : Bound 3300000
unfolding round
bound-height = record { is = refl; unit = refl; low = lit< tt }

pub none-refused : (code X Y Z : ℤ) → first (position_tests code X Y Z) ≡ 0
    → let f = found_at (ellipsoid_of code) X Y Z in
    geodetic_units_of code X Y Z ≡ in_ranges (whole_of f.latitude 5) (whole_of f.longitude 5 +ℤ pos 32400000000) (whole_of f.height 5)
unfolding geodetic_units_of in_angles from_rounded
none-refused code X Y Z h =
    let f = found_at (ellipsoid_of code) X Y Z in
    let b = found-bounded code X Y Z h in
    ap (λ (i : ℕ). unless i Err (in_angles f)) h
    ∙ rw (whole-answer f.latitude 5 bound-latitude (lit≤ tt) b.latitude.most, whole-answer f.longitude 5 bound-longitude (lit≤ tt) b.longitude.most, whole-answer f.height 5 bound-height (lit≤ tt) b.height.most)
