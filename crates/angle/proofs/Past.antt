-- What a longitude in its range is past 90 degrees: it fits an i64, is an f64 exactly, and is a number below 2^52. Assumes nothing.
use mathlib.Core.Path.{◌≡◌, sym, ap, ◌∙◌, subst}
use mathlib.Core.Bool.{true}
use Prim.Native.Nat.{◌-◌}
use native.Mathlib.Omega.{arith}
use lib.Dec.{T}
use lib.IntN.{ℤ, pos, ◌-ℤ◌}
use lib.Ieee.{binary64, in_float}
use mir.Syntax.{w64}
use mir.Val.{SFits}
use Rattle.bounds.proofs.Zero.{Upto}
use Rattle.ranges.specs.Ranges.{within, longitude_range}
use Rattle.ranges.proofs.Ranges.{Natural, natural, natural-holds}
use Rattle.angle.proofs.Wholes.{in-float, fits, sub-pos}

module _ (z : ℤ) (r : longitude_range z ≡ true) where
  longitude : Natural 35640000000 z 43200000000
  longitude = natural 35640000000 z 43200000000 r

  past : z -ℤ pos 32400000000 ≡ pos (longitude.n - 32400000000)
  past = let l = longitude.low in ap (λ (y : ℤ). y -ℤ pos 32400000000) longitude.is ∙ sub-pos longitude.n 32400000000 (omega arith)

  past-upto : Upto 10800000000 (z -ℤ pos 32400000000)
  past-upto = let h = longitude.high in subst (λ (y : ℤ). Upto 10800000000 y) (sym past) (omega arith)

  pub past_fits : SFits w64 (z -ℤ pos 32400000000)
  past_fits = fits 10800000000 (z -ℤ pos 32400000000) tt past-upto

  pub past-float : T (in_float binary64 (z -ℤ pos 32400000000))
  past-float = in-float 10800000000 (z -ℤ pos 32400000000) tt past-upto

  pub past-small : within (pos 0) (z -ℤ pos 32400000000) (pos 4503599627370495) ≡ true
  past-small = let h = longitude.high in rw past (natural-holds 0 (longitude.n - 32400000000) 4503599627370495 (omega arith) (omega arith))
