-- `capi::state::lines_in` meets its contract. Assumes nothing.
use mathlib.Core.Path.{◌∙◌, ap}
use native.Mathlib.Omega.{arith}
use lib.IntN.{nat_abs}
use Rattle.rounding.proofs.Machine.{told}
use Rattle.chain.specs.Numbers.{number}
use Rattle.capi.proofs.Streams.{counts, a-count, size_of}
use Rattle.capi.proofs.state.lines_in.Goals as goal

pub count-requires : goal.count-requires
count-requires c =
    let n = c.args.n.now in
    rw (told {z = number n 0} c.count-arg-1.given) (a-count (number n 0) 1000000 (omega arith) (counts n c.requires.1).lines)

pub returns : goal.returns
returns c =
    let n = c.args.n.now in
    let e = c.count.ensures ∙ ap nat_abs (told {z = number n 0} c.count-arg-1.given) in
    let h = size_of (number n 0) 1000000 (counts n c.requires.1).lines in
    (e, rw e h)
