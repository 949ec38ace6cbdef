-- `line::name::name` meets its contract. Assumes nothing.
use Rattle.std.proofs.Common.{arith}
use Rattle.line.proofs.Walk as W
use Rattle.line.proofs.Names as N
use Rattle.line.proofs.name.name.Goals as goal

pub returns-then-end-at : goal.returns-then-end-at
returns-then-end-at c =
    let g = c.args in W.got-none (N.name-off g.s.now g.at (N.packed_none c.eight-first.ensures (let r = c.eight-first.ensures.run in
    let t = c.eight-second.ensures.run in
    omega (arith, r.place, t.place)))) (omega arith)

pub returns-else-end-at : goal.returns-else-end-at
returns-else-end-at c = N.name-got c.eight-first.ensures c.eight-second.ensures c.closed-next.ensures c.if-end-at.false
