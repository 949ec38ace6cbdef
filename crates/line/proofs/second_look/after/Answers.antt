-- `line::second_look::after` meets its contract. Assumes nothing.
use Rattle.std.proofs.Common.{◌≡◌, length, arith}
use Rattle.line.proofs.SecondLook as L
use Rattle.line.proofs.second_look.after.Goals as goal

pub loop-i-init : goal.loop-i-init
loop-i-init c = L.begun c.args.s.now c.args.at c.requires

pub returns-then-s-i-eq-TAB : goal.returns-then-s-i-eq-TAB
returns-then-s-i-eq-TAB c =
    let k = c in
    let g = k.args in
    L.begun-tab g.s.now g.at k.loop-i.i k.loop-i.invariant (omega arith) c.if-s-i-eq-TAB.true

pub loop-i-preserved : goal.loop-i-preserved
loop-i-preserved c =
    let k = c in
    let g = k.args in
    L.begun-on g.s.now g.at k.loop-i.i k.loop-i.invariant (omega arith) c.if-s-i-eq-TAB.false

pub returns : goal.returns
returns c =
    let g = c.args in
    let e : c.loop-i.i ≡ length g.s.now = omega (arith, c.loop-i.invariant.inside) in
    rw e at (L.begun-end g.s.now g.at c.loop-i.i c.loop-i.invariant (omega arith))
