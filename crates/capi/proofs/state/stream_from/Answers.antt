-- `capi::state::stream_from` meets its contract: each number is read where it stands. Assumes nothing.
use mathlib.Core.Path.{◌∙◌, ap}
use native.Mathlib.Omega.{arith}
use lib.IntN.{nat_abs}
use Rattle.rounding.proofs.Machine.{told}
use Rattle.chain.specs.Numbers.{number}
use Rattle.capi.specs.Fragments.{flag}
use Rattle.capi.proofs.Streams.{counts, a-count, size_of, standing-parts, from_parts}
use Rattle.capi.proofs.state.stream_from.Goals as goal

pub count-lines-requires : goal.count-lines-requires
count-lines-requires c =
    let n = c.args.n.now in
    rw (told {z = number n 0} c.count-arg-1.given) (a-count (number n 0) 1000000 (omega arith) (counts n c.requires.2).lines)

pub overflow_add-result : goal.overflow_add-result
overflow_add-result c =
    let lines = c.count-lines.ensures ∙ ap nat_abs (told {z = number c.args.n.now 0} c.count-arg-1.given) in
    omega (arith, lines, size_of (number c.args.n.now 0) 1000000 (counts c.args.n.now c.requires.2).lines)

pub returns : goal.returns
returns c =
    let s = c.args in
    let n = s.n.now in
    let lines = c.count-lines.ensures ∙ ap nat_abs (told {z = number c.args.n.now 0} c.count-arg-1.given) in
    from_parts n s.bytes.now
    (standing-parts n lines c.chain_in-chain.ensures
    (c.flag-refused.ensures ∙ ap flag (told {z = number n 2} c.flag-arg-1.given))
    (c.flag-closed.ensures ∙ ap flag (told {z = number n 3} c.flag-arg-2-1.given)))
    c.kept_in-kept_count.ensures
    (c.flag-finished.ensures ∙ ap flag (told {z = number n 4} c.flag-arg-3-1.given))
    c.bytes_from-kept.ensures
