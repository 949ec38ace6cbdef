-- `chain::numbers::chain_from` meets its contract: the steps that the numbers say, and past them none. Assumes nothing.
use native.Mathlib.Omega.{arith}
use Rattle.rounding.proofs.Machine.{rd}
use Rattle.chain.proofs.LentSteps.{none-filled, one_more, all-filled}
use Rattle.chain.proofs.numbers.chain_from.Goals as goal

pub loop-i-init : goal.loop-i-init
loop-i-init c = none-filled c.args.n.now c.no_step-steps.ensures

pub loop-i-preserved : goal.loop-i-preserved
loop-i-preserved c =
    let k = c.loop-i in
    one_more c.args.n.now k.steps k.i (omega (arith, c.loop-i-test.true, c.min-i-end.ensures)) (omega (arith, c.loop-i-test.true, c.min-i-end.ensures)) c.step_at.ensures k.invariant

pub returns : goal.returns
returns c =
    let k = c.loop-i in
    let n = c.args.n.now in
    let all = all-filled n k.steps k.i (omega (arith, k.auto.i-end, c.min-i-end.ensures)) (λ h. omega (arith, h, k.auto.i-end, c.loop-i-test.false, c.min-i-end.ensures)) k.invariant in
    rw (all, rd c.ranges.profile)
