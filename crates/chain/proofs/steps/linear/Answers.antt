-- `chain::steps::linear` meets its contract: no product and no sum of them is larger than 11,696,274 · 650,000,000,000. Assumes nothing.
use mathlib.Core.Path.{◌≡◌}
use Prim.Native.Nat.{◌+◌, ◌*◌, ◌≤◌}
use native.Mathlib.Omega.{arith}
use lib.IntN.{nat_abs, ◌+ℤ◌, ◌*ℤ◌}
use mir.Syntax.{w64}
use mir.Val.{SFits, to_z, of_z}
use Rattle.rounding.proofs.Zn.{mul-le, add-le}
use Rattle.rounding.proofs.Machine.{rd, fits, rd+, rd*, fit+, fit*}
use native.Mathlib.Nat.{le_refl}
use Rattle.chain.specs.Axes.{on_x, on_y, on_z}
use Rattle.chain.proofs.steps.linear.Lts as lts
use Rattle.chain.proofs.steps.linear.Reads as reads
use Rattle.chain.proofs.steps.linear.Goals as goal

abbrev TheStart : Type 0
TheStart = lts.Start reads.Pre reads.Post

module _ (s : TheStart) where
  l₁ : nat_abs (s.args.a *ℤ s.args.p.x) ≤ nat_abs s.args.a * 650000000000
  l₁ = mul-le s.args.a s.args.p.x (nat_abs s.args.a) 650000000000 (le_refl _) (s.requires.small.on on_x)

  l₂ : nat_abs (s.args.b *ℤ s.args.p.y) ≤ nat_abs s.args.b * 650000000000
  l₂ = mul-le s.args.b s.args.p.y (nat_abs s.args.b) 650000000000 (le_refl _) (s.requires.small.on on_y)

  l₃ : nat_abs (s.args.c *ℤ s.args.p.z) ≤ nat_abs s.args.c * 650000000000
  l₃ = mul-le s.args.c s.args.p.z (nat_abs s.args.c) 650000000000 (le_refl _) (s.requires.small.on on_z)

  l₁₂ : nat_abs (s.args.a *ℤ s.args.p.x +ℤ s.args.b *ℤ s.args.p.y) ≤ nat_abs s.args.a * 650000000000 + nat_abs s.args.b * 650000000000
  l₁₂ = add-le (s.args.a *ℤ s.args.p.x) (s.args.b *ℤ s.args.p.y) _ _ l₁ l₂

  f₁ : SFits w64 (s.args.a *ℤ s.args.p.x)
  f₁ = fits _ l₁ (omega (arith, s.requires.sum))

  f₂ : SFits w64 (s.args.b *ℤ s.args.p.y)
  f₂ = fits _ l₂ (omega (arith, s.requires.sum))

  f₃ : SFits w64 (s.args.c *ℤ s.args.p.z)
  f₃ = fits _ l₃ (omega (arith, s.requires.sum))

  f₁₂ : SFits w64 (s.args.a *ℤ s.args.p.x +ℤ s.args.b *ℤ s.args.p.y)
  f₁₂ = fits _ l₁₂ (omega (arith, s.requires.sum))

  f : SFits w64 (s.args.a *ℤ s.args.p.x +ℤ s.args.b *ℤ s.args.p.y +ℤ s.args.c *ℤ s.args.p.z)
  f = fits _ (add-le (s.args.a *ℤ s.args.p.x +ℤ s.args.b *ℤ s.args.p.y) (s.args.c *ℤ s.args.p.z) _ _ l₁₂ l₃) (omega (arith, s.requires.sum))

  most : nat_abs (s.args.a *ℤ s.args.p.x +ℤ s.args.b *ℤ s.args.p.y +ℤ s.args.c *ℤ s.args.p.z) ≤ 8000000000000000000
  most = omega (arith, add-le (s.args.a *ℤ s.args.p.x +ℤ s.args.b *ℤ s.args.p.y) (s.args.c *ℤ s.args.p.z) _ _ l₁₂ l₃, s.requires.sum)

  -- what the machine reads
  x : to_z w64 (of_z w64 s.args.p.x) ≡ s.args.p.x
  x = rd (fits 650000000000 (s.requires.small.on on_x) (omega arith))

  y : to_z w64 (of_z w64 s.args.p.y) ≡ s.args.p.y
  y = rd (fits 650000000000 (s.requires.small.on on_y) (omega arith))

  z : to_z w64 (of_z w64 s.args.p.z) ≡ s.args.p.z
  z = rd (fits 650000000000 (s.requires.small.on on_z) (omega arith))

  ax : to_z w64 (of_z w64 (to_z w64 (of_z w64 s.args.a) *ℤ to_z w64 (of_z w64 s.args.p.x))) ≡ s.args.a *ℤ s.args.p.x
  ax = rd* (rd s.ranges.a) x f₁

  by : to_z w64 (of_z w64 (to_z w64 (of_z w64 s.args.b) *ℤ to_z w64 (of_z w64 s.args.p.y))) ≡ s.args.b *ℤ s.args.p.y
  by = rd* (rd s.ranges.b) y f₂

  cz : to_z w64 (of_z w64 (to_z w64 (of_z w64 s.args.c) *ℤ to_z w64 (of_z w64 s.args.p.z))) ≡ s.args.c *ℤ s.args.p.z
  cz = rd* (rd s.ranges.c) z f₃

pub overflow_mul-result : goal.overflow_mul-result
overflow_mul-result c = let s = c.before.before.before in fit* (rd s.ranges.a) (x s) (f₁ s)

pub overflow_mul-result-2 : goal.overflow_mul-result-2
overflow_mul-result-2 c = let s = c.before.before.before.before.before in fit* (rd s.ranges.b) (y s) (f₂ s)

pub overflow_add-result : goal.overflow_add-result
overflow_add-result c = let s = c.before.before.before.before.before in fit+ (ax s) (by s) (f₁₂ s)

pub overflow_mul-result-3 : goal.overflow_mul-result-3
overflow_mul-result-3 c = let s = c.before.before.before.before.before.before in fit* (rd s.ranges.c) (z s) (f₃ s)

pub overflow_add-result-2 : goal.overflow_add-result-2
overflow_add-result-2 c = let s = c.before.before.before.before.before.before in fit+ (rd+ (ax s) (by s) (f₁₂ s)) (cz s) (f s)

pub returns : goal.returns
returns c =
    let s = c.before.before.before.before.before.before in
    let e = rd+ (rd+ (ax s) (by s) (f₁₂ s)) (cz s) (f s) in
    (e, rw e (most s))
