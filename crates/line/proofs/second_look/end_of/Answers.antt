-- `line::second_look::end_of` meets its contract. Assumes nothing.
use Rattle.std.proofs.Common.{arith}
use Rattle.line.proofs.SecondLook as L
use Rattle.line.proofs.second_look.end_of.Goals as goal

pub returns-then-n-eq0 : goal.returns-then-n-eq0
returns-then-n-eq0 c = L.end_empty c.args.line.now c.if-n-eq0.true

pub returns-then-n-gt200 : goal.returns-then-n-gt200
returns-then-n-gt200 c = L.end-long c.args.line.now c.if-n-gt200.true

pub returns-then-line-e-eq-LINE_FEED : goal.returns-then-line-e-eq-LINE_FEED
returns-then-line-e-eq-LINE_FEED c = L.end-feed c.args.line.now (omega arith) c.if-line-e-eq-LINE_FEED.true

pub returns-else-line-e-eq-LINE_FEED : goal.returns-else-line-e-eq-LINE_FEED
returns-else-line-e-eq-LINE_FEED c = L.end-open c.args.line.now (omega arith) c.if-line-e-eq-LINE_FEED.false
