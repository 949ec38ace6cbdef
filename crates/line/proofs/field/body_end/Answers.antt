-- `line::field::body_end` meets its contract. Assumes nothing.
use Rattle.std.proofs.Common.{refl, arith}
use Rattle.line.proofs.Walk as W
use Rattle.line.proofs.field.body_end.Goals as goal

pub returns-then-n-eq0 : goal.returns-then-n-eq0
returns-then-n-eq0 c = rw (W.framed-empty c.args.line.now c.if-n-eq0.true) (omega arith)

pub returns-then-n-gt200 : goal.returns-then-n-gt200
returns-then-n-gt200 c = rw (W.framed-long c.args.line.now c.if-n-gt200.true) (omega arith)

pub returns-then-line-e-eq-LINE_FEED : goal.returns-then-line-e-eq-LINE_FEED
returns-then-line-e-eq-LINE_FEED c = rw (W.framed c.args.line.now (omega arith) (omega arith) c.if-line-e-eq-LINE_FEED.true) (omega arith, refl)

pub returns-else-line-e-eq-LINE_FEED : goal.returns-else-line-e-eq-LINE_FEED
returns-else-line-e-eq-LINE_FEED c = rw (W.framed-open c.args.line.now (omega arith) (omega arith) c.if-line-e-eq-LINE_FEED.false) (omega arith)
