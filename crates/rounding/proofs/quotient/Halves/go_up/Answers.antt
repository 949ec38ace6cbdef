-- `rounding::quotient::Halves::go_up` meets its contract: a number is odd where its remainder over 2 is not 0, of either sign. Assumes nothing.
use mathlib.Core.Path.{◌≡◌, refl, ap, ◌∙◌}
use mathlib.Core.Bool.{not}
use Prim.Native.Nat.{ℕ, zero, suc, ◌%◌, ◌<◌}
use native.Mathlib.Omega.{arith}
use lib.Dec.{eqb}
use lib.IntN.{ℤ, pos, negsuc, neg_ℤ}
use lib.Signed.{le_z, rem_z}
use mir.Syntax.{w64}
use mir.Val.{of_z}
use Rattle.rounding.specs.Nearest.{away, to_even}
use Rattle.rounding.proofs.Machine.{rd}
use Rattle.rounding.proofs.quotient.Halves.go_up.Goals as goal

-- a remainder over 2 is 0 or 1 in size
above : (m : ℕ) → m < 2 → not (eqb (of_z w64 (pos m)) 0) ≡ eqb m 1
above zero h = refl
above (suc zero) h = refl
above (suc (suc m)) h = absurd (omega arith)

under : (m : ℕ) → m < 2 → not (eqb (of_z w64 (neg_ℤ (pos m))) 0) ≡ eqb m 1
under zero h = refl
under (suc zero) h = refl
under (suc (suc m)) h = absurd (omega arith)

odd : (t : ℤ) → not (eqb (of_z w64 (rem_z t (pos 2))) 0) ≡ to_even t
unfolding to_even
odd (pos a) = above (a % 2) (omega arith)
odd (negsuc a) = under (suc a % 2) (omega arith)

pub returns-in-ToEven : goal.returns-in-ToEven
returns-in-ToEven c = ap (λ (t : ℤ). not (eqb (of_z w64 (rem_z t (pos 2))) 0)) (rd c.ranges.t) ∙ odd c.args.t ∙ rw c.in-ToEven.is

pub returns-in-AwayFromZero : goal.returns-in-AwayFromZero
unfolding away
returns-in-AwayFromZero c = ap (le_z (pos 0)) (rd c.ranges.t) ∙ rw c.in-AwayFromZero.is
