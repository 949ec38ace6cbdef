use Rattle.std.proofs.Common.{refl, arith}
use Rattle.line.proofs.Texts as T
use Rattle.line.proofs.write.roomy.packed.put_half.Goals as goal

pub returns : goal.returns
returns c = T.both 4 c.put_pair-a.ensures c.put_pair.ensures (omega arith) refl
