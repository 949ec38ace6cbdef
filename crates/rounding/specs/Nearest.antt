-- Rounding a fraction z/d to a whole number, once: the nearest, and at a half the one that a rule takes. The laws stand in proofs/Nearest.antt, over the predicate
-- and so over every rule and every divisor.
use Rattle.std.specs.Prelude.{◌≡◌, Bool, not, ◌&&◌, ◌||◌, ℕ, suc, ◌+◌, ◌-◌, ◌/◌, ◌%◌, ◌≤◌, ℤ, pos, negsuc, neg_ℤ, nat_abs, ◌+ℤ◌, ◌-ℤ◌, ◌*ℤ◌, ltb, eqb}
use Rattle.std.specs.Int.Signed.{le_z}
use Rattle.refusal.specs.Order.{pick}

-- r is a nearest whole number to z/d: no further from it than a half
pub record Near (z : ℤ) (d : ℕ) (r : ℤ) : Type 0 where
  pub near : nat_abs (pos 2 *ℤ (pos d *ℤ r -ℤ z)) ≤ d

-- ---- a rule for halves: whether t + 1/2 goes up, to t + 1, or down, to t
abbrev pub Ties : Type 0
Ties = ℤ → Bool

-- a half away from zero
unfoldable pub away : Ties
away t = le_z (pos 0) t

-- a half to the even one of t and t + 1: up where t is odd
unfoldable pub to_even : Ties
to_even t = eqb (nat_abs t % 2) 1

-- a rule is symmetric where it takes −(t + 1/2), which is −(t + 1) + 1/2, to the opposite of what it takes t + 1/2 to
pub record Symmetric (ties : Ties) : Type 0 where
  pub opposite : (t : ℤ) → ties (neg_ℤ (t +ℤ pos 1)) ≡ not (ties t)

-- ---- r is z/d rounded by a rule: a nearest whole number, and where z/d is t + 1/2 the one that the rule takes
pub record Rounds (ties : Ties) (z : ℤ) (d : ℕ) (r : ℤ) : Type 0 where
  pub near : Near z d r
  pub half : (t : ℤ) → pos 2 *ℤ z ≡ (pos 2 *ℤ t +ℤ pos 1) *ℤ pos d → r ≡ pick (ties t) (t +ℤ pos 1) t

-- ---- the rounded number. z/d is t + r/d, with t whole and 0 ≤ r < d
unfoldable pub floor : ℤ → ℕ → ℤ
floor (pos a) d = pos (a / d)
floor (negsuc a) d = negsuc (a / d)

unfoldable pub rest : ℤ → ℕ → ℕ
rest (pos a) d = a % d
rest (negsuc a) d = d - suc (a % d)

-- over a half goes up, under a half down, and a half by the rule
unfoldable pub goes_up : Ties → ℤ → ℕ → ℕ → Bool
goes_up ties t r d = ltb d (r + r) || (eqb (r + r) d && ties t)

-- opened, it computes
unfoldable pub rounded : Ties → ℤ → ℕ → ℤ
unfolding floor rest goes_up
rounded ties z d = pick (goes_up ties (floor z d) (rest z d) d) (floor z d +ℤ pos 1) (floor z d)
