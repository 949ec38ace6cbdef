-- `chain::steps::convert::lent::start_in` meets its contract. Assumes nothing.
use mathlib.Core.Path.{◌≡◌, sym, ◌∙◌, ap}
use Prim.Native.Nat.{ℕ, ◌/◌}
use native.Mathlib.Omega.{arith}
use lib.ListN.{length, take}
use Rattle.chain.specs.Convert.{start_of}
use Rattle.chain.specs.Numbers.{eight_from}
use Rattle.chain.proofs.LentSteps.{starts-at}
use Rattle.chain.proofs.steps.convert.lent.start_in.Goals as goal

pub returns-then-steps-lt-STEP : goal.returns-then-steps-lt-STEP
unfolding start_of
returns-then-steps-lt-STEP c =
    let s = c.args in
    let none : length s.steps.now / 13 ≡ 0 = omega (arith, c.if-steps-lt-STEP.true) in
    ap (λ (n : ℕ). start_of s.r (take n (eight_from s.steps.now))) (sym none)

pub returns : goal.returns
returns c = let s = c.args in c.before_in.ensures ∙ sym (starts-at s.steps.now s.r (omega (arith, c.if-steps-lt-STEP.false)))
