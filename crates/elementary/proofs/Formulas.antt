-- The functions as data (`Formula`), each of its variable 0, so that bounds of formulas that call them can be computed; and bounds of each by one computed test.
-- Assumes nothing.
use mathlib.Core.Path.{◌≡◌, refl}
use mathlib.Core.List.{List, [], ◌∷◌}
use Prim.Native.Nat.{ℕ}
use lib.Dec.{T}
use lib.Ieee.{Float}
use Rattle.bounds.proofs.Among.{Ends, Among}
use Rattle.bounds.proofs.Formula.{Formula, var, lit, opp, plus, minus, times, over, square, bind, call, steps, none, also, value, tested, proved}
use Rattle.elementary.specs.Floats.{near, #}
use Rattle.elementary.specs.Series.{sine_table, cosine_table, arctan_table, sine_of, cosine_of, arctan_small_of}
use Rattle.elementary.specs.Root.{root_of}
use Rattle.elementary.specs.Half.{arctangent_of, arcsine_of}
use Rattle.elementary.specs.Hyperbolic.{sinh_of, cosh_of, arctan_series_of, artanh_small_of, artanh_of}

abbrev pub n : ℕ → Formula
n i = lit (# i)

abbrev horner_from_f : Formula → Formula → List Float → Formula
horner_from_f y s [] = s
horner_from_f y s (c ∷ cs) = horner_from_f y (plus (times s y) (lit c)) cs

abbrev pub horner_f : Formula → List Float → Formula
horner_f y [] = n 0
horner_f y (c ∷ cs) = horner_from_f y (lit c) cs

-- a polynomial in variable 1, which is y; and that times the argument
abbrev even_f : Formula → List Float → Formula
even_f y t = bind y (horner_f (var 1) t)

abbrev odd_f : Formula → List Float → Formula
odd_f y t = bind y (times (horner_f (var 1) t) (var 0))

abbrev pub sine_f : Formula
sine_f = odd_f (square (var 0)) sine_table

abbrev pub cosine_f : Formula
cosine_f = even_f (square (var 0)) cosine_table

abbrev pub arctan_small_f : Formula
arctan_small_f = odd_f (square (var 0)) arctan_table

-- Heron's step from r
abbrev step_f : Formula → Formula
step_f r = times (lit (near 1 2)) (plus r (over (var 0) r))

abbrev pub root_f : Formula
root_f = steps (times (lit (near 1 2)) (plus (n 1) (var 0)) ∷ step_f (var 1) ∷ step_f (var 2) ∷ []) (step_f (var 3))

abbrev pub sinh_f : Formula
sinh_f = odd_f (opp (square (var 0))) sine_table

abbrev pub cosh_f : Formula
cosh_f = even_f (opp (square (var 0))) cosine_table

abbrev pub artanh_small_f : Formula
artanh_small_f = odd_f (opp (square (var 0))) arctan_table

-- twice a function of x / (1 + √d)
abbrev half_f : Formula → Formula → Formula
half_f d f = times (n 2) (call f (over (var 0) (plus (n 1) (call root_f d))))

abbrev pub arctangent_f : Formula
arctangent_f = half_f (plus (n 1) (square (var 0))) arctan_small_f

abbrev pub artanh_f : Formula
artanh_f = half_f (minus (n 1) (square (var 0))) artanh_small_f

abbrev pub arcsine_f : Formula
arcsine_f = half_f (minus (n 1) (square (var 0))) arctan_small_f

-- ---- each function is the value of its formula
module _ (x : Float) where
  pub sine-is : sine_of x ≡ value (x ∷ []) sine_f
  unfolding value sine_of
  sine-is = refl

  pub cosine-is : cosine_of x ≡ value (x ∷ []) cosine_f
  unfolding value cosine_of
  cosine-is = refl

  pub arctan-small-is : arctan_small_of x ≡ value (x ∷ []) arctan_small_f
  unfolding value arctan_small_of
  arctan-small-is = refl

  pub root_is : root_of x ≡ value (x ∷ []) root_f
  unfolding value root_of
  root_is = refl

  pub sinh-is : sinh_of x ≡ value (x ∷ []) sinh_f
  unfolding value sinh_of
  sinh-is = refl

  pub cosh-is : cosh_of x ≡ value (x ∷ []) cosh_f
  unfolding value cosh_of
  cosh-is = refl

  -- of the argument's square, or of what stands for it
  pub arctan-series-is : arctan_series_of x ≡ value (x ∷ []) (horner_f (var 0) arctan_table)
  unfolding value arctan_series_of
  arctan-series-is = refl

  pub artanh-small-is : artanh_small_of x ≡ value (x ∷ []) artanh_small_f
  unfolding value artanh_small_of
  artanh-small-is = refl

  pub arctangent-is : arctangent_of x ≡ value (x ∷ []) arctangent_f
  unfolding value arctangent_of
  arctangent-is = refl

  pub artanh-is : artanh_of x ≡ value (x ∷ []) artanh_f
  unfolding value artanh_of
  artanh-is = refl

  pub arcsine-is : arcsine_of x ≡ value (x ∷ []) arcsine_f
  unfolding value arcsine_of
  arcsine-is = refl

-- ---- bounds
pub sine-among : (I J : Ends) {x : Float} → T (tested (I ∷ []) sine_f J) → Among x I → Among (sine_of x) J
sine-among I J {x} t h = rw (sine-is x) (proved (also h none) sine_f J t)

pub cosine-among : (I J : Ends) {x : Float} → T (tested (I ∷ []) cosine_f J) → Among x I → Among (cosine_of x) J
cosine-among I J {x} t h = rw (cosine-is x) (proved (also h none) cosine_f J t)
