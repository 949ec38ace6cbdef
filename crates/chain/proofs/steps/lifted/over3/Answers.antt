-- `chain::steps::lifted::over3` meets its contract: what the division leaves over decides. Assumes nothing.
use Prim.Native.Nat.{ℕ, ◌*◌, ◌/◌, ◌≤◌}
use mathlib.Core.Path.{◌≡◌, refl, ◌∙◌, ap}
use native.Mathlib.Omega.{arith}
use lib.Dec.{eqb}
use lib.IntN.{pos, nat_abs, ◌+ℤ◌}
use mir.Syntax.{w64}
use mir.Val.{SFits, to_z, of_z}
use Rattle.rounding.specs.Quotient.{settled_of}
use Rattle.rounding.proofs.Machine.{rd, rd+, fit+}
use Rattle.rounding.proofs.Lifted.{lifted-rounds}
use Rattle.chain.proofs.Lifting as L
use Rattle.chain.proofs.steps.lifted.over3.Tie as tie
use Rattle.chain.proofs.steps.lifted.over3.Lts as lts
use Rattle.chain.proofs.steps.lifted.over3.Reads as reads
use Rattle.chain.proofs.steps.lifted.over3.Goals as goal

abbrev TheStart : Type 0
TheStart = lts.Start tie.the-claims reads.Pre reads.Post

lift : pos 2000000500 ≡ pos 2000000500
lift = refl

module _ (s : TheStart) where
  fits : SFits w64 (s.args.n +ℤ pos 2000000500)
  fits = L.small-fits s.args.n s.requires

  -- the sum, as the machine reads it, and the number that it is
  sum : to_z w64 (of_z w64 (to_z w64 (of_z w64 s.args.n) +ℤ pos 2000000500)) ≡ s.args.n +ℤ pos 2000000500
  sum = rd+ (rd s.ranges.n) lift fits

  abbrev u : ℕ
  u = nat_abs (s.args.n +ℤ pos 2000000500)

  up : pos u ≡ s.args.n +ℤ pos 2000000500
  up = L.small-lift s.args.n s.requires

  few : u / 1000 ≤ 200000000
  few = omega (arith, L.small-most s.args.n s.requires)

pub overflow_add-u : goal.overflow_add-u
overflow_add-u c = fit+ (rd c.ranges.n) lift (fits c)

pub overflow_cast-u : goal.overflow_cast-u
overflow_cast-u c = rw (sum c) (L.small-casts c.args.n c.requires)

pub lowered-t-requires : goal.lowered-t-requires
lowered-t-requires c = rw (sum c) (omega arith, few c, omega arith)

pub overflow_mul-q : goal.overflow_mul-q
overflow_mul-q c = rw (sum c.before) (record { fits = omega (arith, few c.before) })

pub returns : goal.returns
returns c =
    let s = c.before.before in
    let w = u s in
    rd (record { sfits = c.settled.type_inv }) ∙ (rw (sum s) at c.settled.ensures)
    ∙ ap (settled_of (eqb w (w / 1000 * 1000))) (rd (record { sfits = c.lowered-t.type_inv }) ∙ (rw (sum s) at c.lowered-t.ensures))
    ∙ lifted-rounds (pos 0) s.args.n 1000 500 2000000 w refl (omega arith) (up s)
