-- `chain::steps::at_epoch` meets its contract. Assumes nothing.
use mathlib.Core.Path.{◌≡◌, refl}
use Prim.Native.Nat.{◌+◌, ◌*◌, ◌≤◌}
use native.Mathlib.Omega.{arith}
use lib.IntN.{pos, nat_abs, ◌+ℤ◌, ◌*ℤ◌}
use mir.Syntax.{w64}
use mir.Val.{SFits}
use Rattle.rounding.proofs.Zn.{mul-le, add-le}
use Rattle.rounding.proofs.Machine.{rd, fits, rd+, rd*, fit+, fit*}
use lib.Dec.{lit<}
use Rattle.chain.specs.Parts.{at_epoch}
use Rattle.chain.proofs.steps.at_epoch.Lts as lts
use Rattle.chain.proofs.steps.at_epoch.Reads as reads
use Rattle.chain.proofs.steps.at_epoch.Goals as goal

abbrev TheStart : Type 0
TheStart = lts.Start reads.Pre reads.Post

module _ (s : TheStart) where
  whole : nat_abs (pos 1000 *ℤ s.args.t) ≤ 1000 * 2610
  whole = mul-le (pos 1000) s.args.t 1000 2610 (omega arith) s.requires.0

  rate : nat_abs (s.args.tv *ℤ s.args.dt) ≤ 190 * 90000
  rate = mul-le s.args.tv s.args.dt 190 90000 s.requires.1 s.requires.2

  f : SFits w64 (pos 1000 *ℤ s.args.t)
  f = fits (1000 * 2610) whole (lit< tt)

  g : SFits w64 (s.args.tv *ℤ s.args.dt)
  g = fits (190 * 90000) rate (lit< tt)

  h : SFits w64 (pos 1000 *ℤ s.args.t +ℤ s.args.tv *ℤ s.args.dt)
  h = fits (1000 * 2610 + 190 * 90000) (add-le (pos 1000 *ℤ s.args.t) (s.args.tv *ℤ s.args.dt) _ _ whole rate) (lit< tt)

thousand : pos 1000 ≡ pos 1000
thousand = refl

pub overflow_mul-result : goal.overflow_mul-result
overflow_mul-result c = fit* thousand (rd c.ranges.t) (f c)

pub overflow_mul-result-2 : goal.overflow_mul-result-2
overflow_mul-result-2 c = fit* (rd c.ranges.tv) (rd c.ranges.dt) (g c)

pub overflow_add-result : goal.overflow_add-result
overflow_add-result c = fit+ (rd* thousand (rd c.ranges.t) (f c)) (rd* (rd c.ranges.tv) (rd c.ranges.dt) (g c)) (h c)

pub returns : goal.returns
unfolding at_epoch
returns c = rd+ (rd* thousand (rd c.ranges.t) (f c)) (rd* (rd c.ranges.tv) (rd c.ranges.dt) (g c)) (h c)
