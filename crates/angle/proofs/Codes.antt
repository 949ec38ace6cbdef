-- The table of ellipsoids as a match on a code has it: the codes of none. Assumes nothing.
use mathlib.Core.Path.{◌≡◌, refl}
use Prim.Native.Nat.{zero, suc}
use lib.IntN.{ℤ, pos, negsuc}
use mir.Syntax.{w64}
use mir.Val.{of_z}
use Rattle.elementary.specs.Floats.{#}
use Rattle.angle.specs.Ellipsoids.{table, row, figure_of}

-- no other code than 1 to 4 has a row
pub no_row : (z : ℤ) → (of_z w64 z ≡ 1 → ⊥) → (of_z w64 z ≡ 2 → ⊥) → (of_z w64 z ≡ 3 → ⊥) → (of_z w64 z ≡ 4 → ⊥) → row (# 0) (# 0) ≡ figure_of z
unfolding figure_of table
no_row (negsuc n) a b c d = refl
no_row (pos zero) a b c d = refl
no_row (pos (suc zero)) a b c d = absurd (a refl)
no_row (pos (suc (suc zero))) a b c d = absurd (b refl)
no_row (pos (suc (suc (suc zero)))) a b c d = absurd (c refl)
no_row (pos (suc (suc (suc (suc zero))))) a b c d = absurd (d refl)
no_row (pos (suc (suc (suc (suc (suc n)))))) a b c d = refl
