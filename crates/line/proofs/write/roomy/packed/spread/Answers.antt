use Rattle.std.proofs.Common.{arith}
use Rattle.line.proofs.Packed as P
use Rattle.line.proofs.write.roomy.packed.spread.Goals as goal

pub overflow_mul-result-2 : goal.overflow_mul-result-2
overflow_mul-result-2 c = omega (arith, P.tens-less c.args.pairs c.requires, c.requires.3)

pub overflow_sub-result : goal.overflow_sub-result
overflow_sub-result c = P.tens-less c.args.pairs c.requires

pub returns : goal.returns
returns c = P.spread-is c.args.pairs c.requires
