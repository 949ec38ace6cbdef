-- `line::awaited::number_at` meets its contract. Assumes nothing.
use Rattle.std.proofs.Common.{sym, arith}
use Rattle.line.proofs.SecondLook as L
use Rattle.line.proofs.awaited.number_at.Goals as goal

pub returns-then-index-count : goal.returns-then-index-count
returns-then-index-count c = sym (L.numbers-at c.args.count c.args.index c.if-index-count.true)

pub returns-else-index-count : goal.returns-else-index-count
returns-else-index-count c = sym (L.numbers-past c.args.count c.args.index (omega arith))
