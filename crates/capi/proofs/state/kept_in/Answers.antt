-- `capi::state::kept_in` meets its contract. Assumes nothing.
use mathlib.Core.Path.{◌∙◌, ap}
use native.Mathlib.Omega.{arith}
use lib.IntN.{nat_abs}
use Rattle.rounding.proofs.Machine.{told}
use Rattle.chain.specs.Numbers.{number}
use Rattle.capi.proofs.Streams.{counts, a-count}
use Rattle.capi.proofs.state.kept_in.Goals as goal

pub count-requires : goal.count-requires
count-requires c =
    let n = c.args.n.now in
    rw (told {z = number n 1} c.count-arg-1.given) (a-count (number n 1) 200 (omega arith) (counts n c.requires.1).kept)

pub returns : goal.returns
returns c = c.count.ensures ∙ ap nat_abs (told {z = number c.args.n.now 1} c.count-arg-1.given)
