-- `chain::steps::lifted::over14` meets its contract: what the division leaves over decides. Assumes nothing.
use Prim.Native.Nat.{ℕ, ◌*◌, ◌/◌, ◌≤◌}
use mathlib.Core.Path.{◌≡◌, refl, ◌∙◌, ap}
use native.Mathlib.Omega.{arith}
use lib.Dec.{eqb}
use lib.IntN.{pos, ◌+ℤ◌}
use Rattle.rounding.specs.Quotient.{settled_of}
use Rattle.rounding.proofs.Machine.{rd}
use Rattle.rounding.proofs.Lifted.{lifted-rounds}
use Rattle.chain.proofs.Lifting as L
use Rattle.chain.proofs.steps.lifted.over14.Tie as tie
use Rattle.chain.proofs.steps.lifted.over14.Lts as lts
use Rattle.chain.proofs.steps.lifted.over14.Reads as reads
use Rattle.chain.proofs.steps.lifted.over14.Goals as goal

abbrev TheAfterRaised : Type 0
TheAfterRaised = lts.After-raised tie.the-claims reads.Pre reads.Post

-- once u is made
module _ (c : TheAfterRaised) where
  abbrev u : ℕ
  u = c.raised-u.result

  up : pos u ≡ c.args.n +ℤ pos 8000050000000000000
  up = rw (rd c.ranges.n) at c.raised-u.ensures

  few : u / 100000000000000 ≤ 200000000
  few = omega (arith, L.at_most c.args.n u 8000050000000000000 up c.requires)

pub lowered-t-requires : goal.lowered-t-requires
lowered-t-requires c = (omega arith, few c, omega arith)

pub returns : goal.returns
returns c =
    let s = c in
    let w = u c.before.before in
    rd (record { sfits = c.settled.type_inv }) ∙ c.settled.ensures
    ∙ ap (settled_of (eqb w (w / 100000000000000 * 100000000000000))) (rd (record { sfits = c.lowered-t.type_inv }) ∙ c.lowered-t.ensures)
    ∙ lifted-rounds (pos 0) s.args.n 100000000000000 50000000000000 80000 w refl (omega arith) (up c.before.before)
