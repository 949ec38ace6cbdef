-- `chain::steps::moved` meets its contract. Assumes nothing.
use mathlib.Core.Path.{◌≡◌, ◌∙◌, ap}
use Prim.Native.Nat.{◌*◌}
use lib.IntN.{ℤ, pos, ◌*ℤ◌}
use mir.Syntax.{w64}
use mir.Val.{SFits, to_z, of_z}
use Rattle.rounding.proofs.Zn.{mul-le}
use Rattle.rounding.proofs.Machine.{rd, fits, rd*, fit*}
use native.Mathlib.Nat.{le_trans}
use lib.Dec.{lit<, lit≤}
use Rattle.rounding.specs.Nearest.{to_even}
use Rattle.rounding.specs.Quotient.{mixed}
use Rattle.chain.proofs.Rounding.{step-alone}
use Rattle.chain.proofs.steps.moved.Tie as tie
use Rattle.chain.proofs.steps.moved.Lts as lts
use Rattle.chain.proofs.steps.moved.Reads as reads
use Rattle.chain.proofs.steps.moved.Goals as goal

abbrev TheStart : Type 0
TheStart = lts.Start tie.the-claims reads.Pre reads.Post

f : (s : TheStart) → SFits w64 (s.args.v *ℤ s.args.dt)
f s = fits (10000 * 120000) (mul-le s.args.v s.args.dt 10000 120000 s.requires.0 s.requires.1) (lit< tt)

pub overflow_mul-v : goal.overflow_mul-v
overflow_mul-v c = fit* (rd c.ranges.v) (rd c.ranges.dt) (f c)

-- v·dt, as the machine reads it
product : (s : TheStart) → to_z w64 (of_z w64 (to_z w64 (of_z w64 s.args.v) *ℤ to_z w64 (of_z w64 s.args.dt))) ≡ s.args.v *ℤ s.args.dt
product s = rd* (rd s.ranges.v) (rd s.ranges.dt) (f s)

pub over3-requires : goal.over3-requires
over3-requires c = rw (product c) (le_trans (mul-le c.args.v c.args.dt 10000 120000 c.requires.0 c.requires.1) (lit≤ tt))

pub returns : goal.returns
returns c = let s = c.before in rd (record { sfits = c.over3.type_inv }) ∙ c.over3.ensures ∙ ap (λ (n : ℤ). mixed to_even (pos 0) n (pos 1000)) (product s) ∙ step-alone 1000 (s.args.v *ℤ s.args.dt)
