-- What the steps take of their rounding, whatever it does with a half: these five laws are all that is used of it above. Assumes nothing.
use mathlib.Core.Path.{◌≡◌, ap}
use Prim.Native.Nat.{ℕ, ◌+◌, ◌*◌, ◌<◌, ◌≤◌}
use native.Mathlib.Omega.{arith}
use lib.IntN.{ℤ, pos, neg_ℤ, nat_abs, ◌+ℤ◌, ◌-ℤ◌, ◌*ℤ◌}
use Rattle.rounding.specs.Nearest.{to_even, rounded}
use Rattle.rounding.specs.Quotient.{mixed}
use Rattle.rounding.proofs.Zn.{v, k, ◌⊕◌, ◌⊗◌, eq}
use Rattle.rounding.proofs.Roundings.{rounded-apart, rounded-size, rounded-opposite, rounded-whole, even-symmetric}
use Rattle.chain.specs.Parts.{step_round}

-- two values that lie less than L + 1 apart are rounded to numbers at most L + 1 apart
pub step-apart : {d : ℕ} → 0 < d → (L : ℕ) (x y : ℤ) → nat_abs (x -ℤ y) < (L + 1) * d → nat_abs (step_round x d -ℤ step_round y d) ≤ L + 1
unfolding step_round
step-apart = rounded-apart to_even

-- a value of at most m is rounded to a number of at most m
pub step-size : {d : ℕ} → 0 < d → (m : ℕ) (z : ℤ) → nat_abs z ≤ m * d → nat_abs (step_round z d) ≤ m
unfolding step_round
step-size = rounded-size to_even

-- the opposite is rounded to the opposite
pub step-opposite : {d : ℕ} → 0 < d → (z : ℤ) → step_round (neg_ℤ z) d ≡ neg_ℤ (step_round z d)
unfolding step_round
step-opposite h = rounded-opposite to_even h even-symmetric

-- a whole number is rounded to itself
pub step-whole : (z : ℤ) → step_round z 1 ≡ z
unfolding step_round
step-whole = rounded-whole to_even

-- a fraction with no whole part before it
pub step-alone : (d : ℕ) (n : ℤ) → mixed to_even (pos 0) n (pos d) ≡ step_round n d
unfolding step_round
step-alone d n = ap (λ (z : ℤ). rounded to_even z d) (from_zero (pos d))
  where
    from_zero : (e : ℤ) → pos 0 *ℤ e +ℤ n ≡ n
    from_zero e = eq (k 0 ⊗ v e ⊕ v n) (v n) (omega arith)
