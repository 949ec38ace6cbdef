-- `capi::state::put_new_step` meets its contract. Assumes nothing.
use mathlib.Core.Path.{◌≡◌, ◌∙◌, ap}
use mathlib.Core.List.{List}
use Prim.Native.Nat.{◌+◌, ◌*◌}
use native.Mathlib.Omega.{arith}
use lib.IntN.{ℤ}
use lib.ListN.{length}
use lib.Seq.{sets}
use Rattle.capi.proofs.Streams.{new-step, no-new-step}
use borrow.Author.Rules.{rules}
use Rattle.capi.proofs.state.put_new_step.Goals as goal

pub returns-then-chain-steps : goal.returns-then-chain-steps
returns-then-chain-steps c = no-new-step c.args.n.now c.args.chain c.steps_in-steps.ensures c.if-chain-steps.true

pub copy-requires : goal.copy-requires
copy-requires c = let z : length c.row_of-row.result ≡ 13 = search rules in omega (arith, z, c.requires.0, c.requires.2, c.if-chain-steps.false)

pub returns : goal.returns
returns c =
    c.copy.ensures
    ∙ ap (λ (l : List ℤ). sets c.args.n.now (7 + 13 * c.steps_in-steps.result) l) c.row_of-row.ensures
    ∙ new-step c.args.n.now c.args.chain c.steps_in-steps.ensures (omega (arith, c.if-chain-steps.false))
