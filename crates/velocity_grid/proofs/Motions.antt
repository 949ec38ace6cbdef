-- A velocity of numbers that are the same, and what stands at the start of a room. Assumes nothing.
use mathlib.Core.Path.{◌≡◌}
use mathlib.Core.List.{List}
use Prim.Native.Nat.{ℕ, ◌≤◌}
use native.Mathlib.Omega.{arith}
use lib.IntN.{ℤ}
use lib.ListN.{length, take}
use lib.Seq.{sets, sets-eq, take_at}
use Rattle.line.specs.declared.GridHeader.{GridHeader}
use Rattle.velocity_grid.specs.Step.{velocity_of}

-- of the same five numbers
pub same-velocity : (g : GridHeader) (ns : List ℤ) {a a' o o' d d' b b' e e' : ℤ} → a ≡ a' → o ≡ o' → d ≡ d' → b ≡ b' → e ≡ e' → velocity_of g ns a o d b e ≡ velocity_of g ns a' o' d' b' e'
same-velocity g ns p q r s t = rw (p, q, r, s, t)

pub at-start : (vs l : List ℤ) (n : ℕ) → length vs ≡ n → n ≤ length l → take n (sets l 0 vs) ≡ vs
at-start vs l n e h = rw (sets-eq vs l 0 (omega arith)) (take_at vs _ n e)
