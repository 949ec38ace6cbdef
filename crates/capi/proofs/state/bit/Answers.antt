-- `capi::state::bit` meets its contract. Assumes nothing.
use Rattle.capi.proofs.state.bit.Goals as goal

pub returns-then-b : goal.returns-then-b
returns-then-b c = rw c.if-b.true

pub returns : goal.returns
returns c = rw c.if-b.false
