-- `line::write::+natural` meets its contract: a digit at a time. Assumes nothing.
use Rattle.std.proofs.Common.{sym, arith}
use Rattle.line.proofs.Texts as T
use Rattle.line.proofs.write.+natural.Goals as goal

pub natural-e-requires : goal.natural-e-requires
natural-e-requires t c = omega (arith, c.if-n-lt10.false)

pub returns-then-n-lt10 : goal.returns-then-n-lt10
returns-then-n-lt10 t c = T.says c.byte.ensures (sym (T.decimal-one c.args.n c.if-n-lt10.true))

pub returns-else-n-lt10 : goal.returns-else-n-lt10
returns-else-n-lt10 t c = T.says (T.«then» c.natural-e.ensures c.byte-else-n-lt10.ensures) (sym (T.decimal-more c.args.n c.if-n-lt10.false))
