-- Whole numbers in radians and in metres, as the formulas and the code have them: the number's f64 times the constant, or over a thousand. Assumes nothing.
use Prim.Native.Nat.{◌^◌}
use mathlib.Core.Path.{◌≡◌, refl}
use lib.IntN.{ℤ}
use Rattle.elementary.specs.Floats.{◌⊗◌, ◌⊘◌, near, #, whole}
use Rattle.angle.specs.Units.{k, radians, metres, seconds}

pub k-is : k ≡ near 484813681109536 (10 ^ 25)
unfolding k
k-is = refl

pub seconds-is : seconds ≡ near 206264806247096355 (10 ^ 12)
unfolding seconds
seconds-is = refl

pub radians-is : (z : ℤ) → radians z ≡ whole z ⊗ k
unfolding radians
radians-is z = refl

pub metres-is : (z : ℤ) → metres z ≡ whole z ⊘ # 1000
unfolding metres
metres-is z = refl
