-- `chain::steps::lifted::over11` meets its contract: what the division leaves over decides. Assumes nothing.
use Prim.Native.Nat.{ℕ, ◌*◌, ◌/◌, ◌%◌, ◌≤◌}
use mathlib.Core.Path.{◌≡◌, refl, ◌∙◌, ap}
use native.Mathlib.Omega.{arith}
use lib.Dec.{eqb}
use lib.IntN.{pos, ◌+ℤ◌, ◌-ℤ◌}
use mathlib.Core.Bool.{false}
use mir.Syntax.{w64}
use mir.Val.{to_z, of_z}
use borrow.Author.Tests.{ne_eqb}
use Rattle.rounding.specs.Nearest.{to_even}
use Rattle.rounding.specs.Quotient.{mixed, settled_of}
use Rattle.rounding.proofs.Machine.{rd}
use Rattle.rounding.proofs.Lifted.{lifted-rounds}
use Rattle.chain.proofs.Lifting as L
use Rattle.chain.proofs.steps.lifted.over11.Tie as tie
use Rattle.chain.proofs.steps.lifted.over11.Lts as lts
use Rattle.chain.proofs.steps.lifted.over11.Reads as reads
use Rattle.chain.proofs.steps.lifted.over11.Goals as goal

abbrev TheAfterLowered : Type 0
TheAfterLowered = lts.After-lowered tie.the-claims reads.Pre reads.Post

abbrev TheAfterRaised : Type 0
TheAfterRaised = lts.After-raised tie.the-claims reads.Pre reads.Post

-- once u is made
module _ (c : TheAfterRaised) where
  abbrev u : ℕ
  u = c.raised-u.result

  up : pos u ≡ c.args.n +ℤ pos 8000000050000000000
  up = rw (rd c.ranges.n) at c.raised-u.ensures

  few : u / 100000000000 ≤ 200000000
  few = omega (arith, L.at_most c.args.n u 8000000050000000000 up c.requires.1)

pub lowered-t-requires : goal.lowered-t-requires
lowered-t-requires c = (rw (rd c.ranges.k) c.requires.0, few c, omega arith)

-- the quotient without the lift, on a whole part
module _ (c : TheAfterLowered) where
  abbrev w : ℕ
  w = u c.before

  low : to_z w64 (of_z w64 c.lowered-t.result) ≡ c.args.k +ℤ (pos (w / 100000000000) -ℤ pos 80000000)
  low = rd (record { sfits = c.lowered-t.type_inv }) ∙ (rw (rd c.ranges.k) at c.lowered-t.ensures)

  is : settled_of (eqb w (w / 100000000000 * 100000000000)) (c.args.k +ℤ (pos (w / 100000000000) -ℤ pos 80000000)) ≡ mixed to_even c.args.k c.args.n (pos 100000000000)
  is = lifted-rounds c.args.k c.args.n 100000000000 50000000000 80000000 w refl (omega arith) (up c.before)

-- what 2,048 does not divide is no multiple of 10^11
no-half : (w : ℕ) → (w % 2048 ≡ 0 → ⊥) → eqb w (w / 100000000000 * 100000000000) ≡ false
no-half w n = ne_eqb w (w / 100000000000 * 100000000000) (λ e. n (omega (arith, e)))

pub returns-then-u-ne0 : goal.returns-then-u-ne0
returns-then-u-ne0 c = low c.before ∙ (rw (no-half (w c.before) c.if-u-ne0.true) at (is c.before))

pub returns : goal.returns
returns c =
    let b = c.before.before in
    rd (record { sfits = c.settled.type_inv }) ∙ c.settled.ensures ∙ ap (settled_of (eqb (w b) (w b / 100000000000 * 100000000000))) (low b) ∙ is b
