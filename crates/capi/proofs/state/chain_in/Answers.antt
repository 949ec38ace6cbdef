-- `capi::state::chain_in` meets its contract: the steps within the count. Assumes nothing.
use mathlib.Core.Path.{◌∙◌}
use Rattle.rounding.proofs.Machine.{told}
use Rattle.chain.specs.Numbers.{number}
use native.Mathlib.Omega.{arith}
use Rattle.capi.proofs.Streams.{chain-read}
use Rattle.capi.proofs.state.chain_in.Goals as goal

pub slice_bounds-chain_from-count : goal.slice_bounds-chain_from-count
slice_bounds-chain_from-count c = omega (arith, c.steps_end-end.ensures.0)

pub returns : goal.returns
returns c =
    let n = c.args.n.now in
    c.chain_from.ensures ∙ chain-read n (told {z = number n 5} c.profile-1.given) c.steps_end-end.ensures.0
