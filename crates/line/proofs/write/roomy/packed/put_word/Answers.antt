use Rattle.std.proofs.Common.{refl, arith}
use Rattle.line.proofs.Texts as T
use Rattle.line.proofs.write.roomy.packed.put_word.Goals as goal

pub returns : goal.returns
returns c = T.both 8 c.put_half-a.ensures c.put_half.ensures (omega arith) refl
