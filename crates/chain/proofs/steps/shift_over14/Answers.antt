-- `chain::steps::shift_over14` meets its contract. Assumes nothing.
use mathlib.Core.Path.{◌≡◌, refl, ◌∙◌}
use Prim.Native.Nat.{◌*◌, ◌≤◌}
use native.Mathlib.Omega.{arith}
use lib.IntN.{ℤ, pos, nat_abs, ◌*ℤ◌}
use mir.Syntax.{w64}
use mir.Val.{SFits, to_z, of_z}
use Rattle.rounding.proofs.Zn.{mul-le}
use Rattle.rounding.proofs.Machine.{rd, fits, rd*, fit*, rd0-, fit0-, of₃}
use lib.Dec.{lit<}
use Rattle.chain.specs.Parts.{at_epoch}
use Rattle.chain.specs.Ready.{over_of}
use Rattle.chain.proofs.Prepared.{over}
use Rattle.chain.proofs.Sizes.{at-epoch-size}
use Rattle.chain.proofs.steps.shift_over14.Tie as tie
use Rattle.chain.proofs.steps.shift_over14.Lts as lts
use Rattle.chain.proofs.steps.shift_over14.Reads as reads
use Rattle.chain.proofs.steps.shift_over14.Goals as goal

abbrev TheAfterAtEpoch : Type 0
TheAfterAtEpoch = lts.After-at_epoch tie.the-claims reads.Pre reads.Post

-- the shift, as it was read, and that the results fit
module _ (c : TheAfterAtEpoch) where
  abbrev T : ℤ
  T = at_epoch c.args.t c.args.tv c.args.dt

  t : to_z w64 (of_z w64 c.at_epoch.result) ≡ T
  t = rd (record { sfits = c.at_epoch.type_inv }) ∙ c.at_epoch.ensures ∙ of₃ at_epoch (rd c.ranges.t) (rd c.ranges.tv) (rd c.ranges.dt)

  size : nat_abs T ≤ 19710000
  size = at-epoch-size c.args.t c.args.tv c.args.dt 2610 190 90000 c.requires.0 c.requires.1 c.requires.2

  f : SFits w64 (T *ℤ pos 100000000000)
  f = fits (19710000 * 100000000000) (mul-le T (pos 100000000000) 19710000 100000000000 size (omega arith)) (lit< tt)

  g : SFits w64 (over_of T)
  g = fits 1971000000000000000 (over T size) (lit< tt)

ten11 : pos 100000000000 ≡ pos 100000000000
ten11 = refl

pub overflow_mul-result : goal.overflow_mul-result
overflow_mul-result c = fit* (t c) ten11 (f c)

pub overflow_sub-result : goal.overflow_sub-result
overflow_sub-result c = fit0- (rd* (t c) ten11 (f c)) (g c)

pub returns : goal.returns
returns c = rd0- (rd* (t c) ten11 (f c)) (g c)
