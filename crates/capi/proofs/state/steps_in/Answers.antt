-- `capi::state::steps_in` meets its contract. Assumes nothing.
use mathlib.Core.Path.{◌∙◌, ap}
use native.Mathlib.Omega.{arith}
use lib.IntN.{nat_abs}
use Rattle.rounding.proofs.Machine.{told}
use Rattle.chain.specs.Numbers.{number}
use Rattle.capi.proofs.Streams.{counts, a-count}
use Rattle.capi.proofs.state.steps_in.Goals as goal

pub count-requires : goal.count-requires
count-requires c =
    let n = c.args.n.now in
    rw (told {z = number n 6} c.count-arg-1.given) (a-count (number n 6) 8 (omega arith) (counts n c.requires.1).steps)

pub returns : goal.returns
returns c = c.count.ensures ∙ ap nat_abs (told {z = number c.args.n.now 6} c.count-arg-1.given)
