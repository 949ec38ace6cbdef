-- `rounding::decimals::fives` meets its contract: each arm's power computes, and no other number of places comes here. Assumes nothing.
use mathlib.Core.Path.{◌≡◌, sym, ap}
use Prim.Native.Nat.{ℕ, ◌^◌}
use Rattle.rounding.proofs.decimals.fives.Goals as goal

power : {p k : ℕ} → p ≡ k → 5 ^ k ≡ 5 ^ p
power e = sym (ap (λ (n : ℕ). 5 ^ n) e)

pub returns-in-0 : goal.returns-in-0
returns-in-0 c = power c.in-0.is

pub returns-in-1 : goal.returns-in-1
returns-in-1 c = power c.in-1.is

pub returns-in-2 : goal.returns-in-2
returns-in-2 c = power c.in-2.is

pub returns-in-3 : goal.returns-in-3
returns-in-3 c = power c.in-3.is

pub returns-in-4 : goal.returns-in-4
returns-in-4 c = power c.in-4.is

pub returns-in-5 : goal.returns-in-5
returns-in-5 c = power c.in-5.is
