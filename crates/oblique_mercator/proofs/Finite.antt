-- No NaN and no infinity on the way forward: for every accepted projection and every accepted point every f64 is finite, and easting and northing are bounded. E and N each are
-- one computed test over all the ranges at once. Assumes nothing.
use mathlib.Core.Path.{◌≡◌, refl, sym, subst}
use mathlib.Core.Bool.{Bool, true, false, not}
use mathlib.Core.List.{List, [], ◌∷◌}
use Prim.Native.Nat.{ℕ, ◌*◌, ◌≤◌}
use native.Mathlib.Omega.{arith}
use lib.Dec.{T, lit≤}
use lib.IntN.{ℤ, pos, negsuc, ◌-ℤ◌}
use lib.Ieee.{Float, binary64, round, neg, div, of_int}
use lib.Ieee.Scale.{finite}
use lib.Ieee.Positive.{num, den}
use Rattle.refusal.specs.Numbers.{range, geodetic}
use Rattle.refusal.specs.Order.{pick, unless}
use Rattle.ranges.specs.Ranges.{latitude_range, longitude_range}
use Rattle.ranges.proofs.Ranges.{Natural, natural}
use Rattle.bounds.proofs.Among.{untold, told, Ends, Among, is_finite}
use Rattle.bounds.proofs.Formula.{All, none, also, value, tested, proved, Fine, every}
use Rattle.bounds.proofs.Zero.{ranged, wholes, told-among, whole-among, of_int-among}
use Rattle.elementary.specs.Floats.{near, whole}
use Rattle.angle.proofs.UnitLaws.{k-is}
use Rattle.angle.specs.declared.Projected.{Projected}
use Rattle.std.specs.Prelude.{Ok, Err}
use Rattle.angle.proofs.Sizes.{axis, eccentricity, shaped}
use Rattle.angle.proofs.Wholes.{upto}
use Rattle.oblique_mercator.specs.Parameters.{parameters_range}
use Rattle.oblique_mercator.specs.Projection.{projection_made, projection_of}
use Rattle.oblique_mercator.specs.Forward.{plane_at, forward_from_of, forward_of}
use Rattle.oblique_mercator.specs.Bounded as statements
use Rattle.oblique_mercator.specs.Bounded.{AtMost, PlaneBounded}
use Rattle.oblique_mercator.specs.declared.Parameters.{Parameters}
use Rattle.oblique_mercator.proofs.Wholes as parameters
use Rattle.oblique_mercator.proofs.Wholes.{Ranged, Between, reduced-between, sized-upto, apart}
use Rattle.oblique_mercator.proofs.Formulas.{given, east_f, north_f, plane-is}

-- ---- a and e2 of the ellipsoids; the centre's latitude, the scale, the azimuth and the rectified angle (30 to 60 degrees to either side), the false origin; a point's
-- latitude, and its longitude less the centre's
abbrev accepted : List Ends
accepted =
    axis
    ∷ eccentricity
    ∷ ranged (told false) 360000000 2880000000
    ∷ ranged (told false) 99000000000 101000000000
    ∷ wholes 10800000000 21600000000
    ∷ wholes 10800000000 21600000000
    ∷ wholes 0 2000000000
    ∷ wholes 0 2000000000
    ∷ ranged (told false) 0 2880000000
    ∷ wholes 0 7560000000
    ∷ []

abbrev plane_b : Ends
plane_b = record { lo = near 0 1; hi = near 30000000 1; side = untold }

plane-tests : T (tested accepted east_f plane_b) × T (tested accepted north_f plane_b)
unfolding tested round neg div
plane-tests = rw k-is (tt, tt)

-- ---- the whole numbers as f64s
latitude-finite : T (finite (round binary64 false 2880000000 1))
unfolding round
latitude-finite = tt

scale-finite : T (finite (round binary64 false 101000000000 1))
unfolding round
scale-finite = tt

angle-finite : T (finite (round binary64 false 21600000000 1))
unfolding round
angle-finite = tt

offset-finite : T (finite (round binary64 false 2000000000 1))
unfolding round
offset-finite = tt

apart-finite : T (finite (round binary64 false 7560000000 1))
unfolding round
apart-finite = tt

natural-among : {lo hi : ℕ} {z : ℤ} → Natural lo z hi → T (finite (round binary64 false hi 1)) → Among (whole z) (ranged (told false) lo hi)
unfolding of_int
natural-among {lo} {hi} p f = subst (λ (y : ℤ). Among (whole y) (ranged (told false) lo hi)) (sym p.is) (told-among false p.n lo hi p.low p.high f)

between-among : (a b : ℕ) (z : ℤ) → Between a b z → T (finite (round binary64 false b 1)) → Among (whole z) (wholes a b)
unfolding of_int
between-among a b (pos n) h f = whole-among false n a b h.low h.high f
between-among a b (negsuc n) h f = whole-among true _ a b h.low h.high f

module _ (p : Parameters) (lat lon : ℤ) (h : parameters_range p ≡ true) (a : latitude_range lat ≡ true) (o : longitude_range lon ≡ true) where
  all : All (given p lat lon) accepted
  all =
      let r : Ranged p = parameters.ranged p h in
      let e = shaped p.ellipsoid r.ellipsoid in
      also e.long
      (also e.squared
      (also (natural-among (natural 360000000 p.latitude 2880000000 r.latitude) latitude-finite)
      (also (natural-among (natural 99000000000 p.scale 101000000000 r.scale) scale-finite)
      (also (between-among 10800000000 21600000000 _ (reduced-between p.azimuth r.azimuth) angle-finite)
      (also (between-among 10800000000 21600000000 _ (reduced-between p.rectified r.rectified) angle-finite)
      (also (of_int-among 2000000000 p.false_easting (upto 2000000000 1999999999 p.false_easting 2000000000 (lit≤ tt) (lit≤ tt) r.easting) offset-finite)
      (also (of_int-among 2000000000 p.false_northing (upto 2000000000 1999999999 p.false_northing 2000000000 (lit≤ tt) (lit≤ tt) r.northing) offset-finite)
      (also (natural-among (natural 0 lat 2880000000 a) latitude-finite)
      (also (of_int-among 7560000000 (lon -ℤ p.longitude) (sized-upto 7560000000 (lon -ℤ p.longitude) (apart lon p.longitude o r.longitude)) apart-finite) none)))))))))

  -- every f64 on the way is finite
  pub all-finite : Fine (given p lat lon) east_f × Fine (given p lat lon) north_f
  all-finite = (every all east_f plane_b plane-tests.0, every all north_f plane_b plane-tests.1)

  at_most : (x : Float) → Among x plane_b → AtMost 30000000 x
  unfolding round
  at_most x b =
      let c : num x * 1 ≤ 30000000 * den x = b.most.cross in
      record { is_finite = is_finite b; size = omega arith }

  pub laid-bounded : PlaneBounded (Ok (plane_at (projection_made p) lat lon))
  laid-bounded =
      subst (λ (q : Projected). PlaneBounded (Ok q)) (sym (plane-is p lat lon))
      (at_most (value (given p lat lon) east_f) (proved all east_f plane_b plane-tests.0), at_most (value (given p lat lon) north_f) (proved all north_f plane_b plane-tests.1))

-- ---- whatever is refused, and whatever is answered
pub bounded : statements.Bounded
unfolding forward_of projection_of forward_from_of projection_made
bounded p lat lon = go (parameters_range p) refl
  where
    point : (x y z : Bool) → longitude_range p.longitude ≡ x → latitude_range lat ≡ y → longitude_range lon ≡ z → parameters_range p ≡ true
        → PlaneBounded (unless (pick (not x) range (pick (not y) geodetic (pick (not z) geodetic 0))) Err (Ok (plane_at (projection_made p) lat lon)))
    point false y z d e f h = tt
    point true false z d e f h = tt
    point true true false d e f h = tt
    point true true true d e f h = laid-bounded p lat lon h e f

    go : (r : Bool) → parameters_range p ≡ r → PlaneBounded (forward_of p lat lon)
    go false e = rw e tt
    go true e = rw e (point (longitude_range p.longitude) (latitude_range lat) (longitude_range lon) refl refl refl e)
