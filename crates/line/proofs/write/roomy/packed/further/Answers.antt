use Rattle.std.proofs.Common.{arith}
use Rattle.line.proofs.Leading as D
use Rattle.line.proofs.write.roomy.packed.further.Goals as goal

pub overflow_add-result : goal.overflow_add-result
overflow_add-result c = let n = c.args.n in omega (arith, D.reach-most n 10 _ c.reaches.ensures, D.reach-most n 100 _ c.reaches-2.ensures)

pub overflow_add-result-2 : goal.overflow_add-result-2
overflow_add-result-2 c = let n = c.args.n in omega (arith, D.reach-most n 10 _ c.reaches.ensures, D.reach-most n 100 _ c.reaches-2.ensures, D.reach-most n 1000 _ c.reaches-3.ensures)

pub returns : goal.returns
returns c = D.further-is _ _ _ _ c.reaches.ensures c.reaches-2.ensures c.reaches-3.ensures
