-- `capi::state::steps_end` meets its contract. Assumes nothing.
use mathlib.Core.Path.{ap}
use Prim.Native.Nat.{ℕ, ◌+◌, ◌*◌, ◌≤◌}
use native.Mathlib.Omega.{arith}
use Rattle.chain.specs.Numbers.{number}
use Rattle.capi.proofs.Streams.{counts, size_of}
use Rattle.capi.proofs.state.steps_end.Tie as tie
use Rattle.capi.proofs.state.steps_end.Lts as lts
use Rattle.capi.proofs.state.steps_end.Reads as reads
use Rattle.capi.proofs.state.steps_end.Goals as goal

abbrev TheAfterStepsIn : Type 0
TheAfterStepsIn = lts.After-steps_in tie.the-claims reads.Pre reads.Post

few : (c : TheAfterStepsIn) → c.steps_in.result ≤ 8
few c = let n = c.args.n.now in let h = size_of (number n 6) 8 (counts n c.requires.1).steps in rw c.steps_in.ensures h

pub overflow_mul-result : goal.overflow_mul-result
overflow_mul-result c = omega (arith, few c)

pub overflow_add-result : goal.overflow_add-result
overflow_add-result c = omega (arith, few c)

pub returns : goal.returns
returns c = (ap (λ (k : ℕ). 7 + 13 * k) c.steps_in.ensures, omega (arith, few c))
