-- `line::ends::end_in_sixteen` meets its contract. Assumes nothing.
use Rattle.std.proofs.Common.{◌≡◌, ◌∙◌, arith}
use Rattle.line.proofs.Lines.{at-feed, stands, further}
use Rattle.line.proofs.ends.end_in_sixteen.Goals as goal

pub loop-clear-init : goal.loop-clear-init
loop-clear-init c = (omega arith, stands _ _)

pub returns-then-input-from-eq-LINE_FEED : goal.returns-then-input-from-eq-LINE_FEED
returns-then-input-from-eq-LINE_FEED c = at-feed _ _ _ c.loop-clear.invariant.1 (omega arith) c.if-input-from-eq-LINE_FEED.true

pub loop-clear-preserved : goal.loop-clear-preserved
loop-clear-preserved c =
    let k = c.loop-clear in
    (omega arith, further _ _ k.clear k.invariant.1 (omega arith) c.if-input-from-eq-LINE_FEED.false)

pub returns : goal.returns
returns c =
    let k = c.loop-clear in
    let e : k.clear ≡ 16 = omega arith in
    c.end_near.ensures ∙ (rw e at k.invariant.1).ends
