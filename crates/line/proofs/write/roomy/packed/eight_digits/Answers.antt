use Rattle.std.proofs.Common.{arith}
use Rattle.line.proofs.Texts as T
use Rattle.line.proofs.Packed as P
use Rattle.line.proofs.write.roomy.packed.eight_digits.Goals as goal

pub spread-w-requires : goal.spread-w-requires
spread-w-requires c = rw c.pairs_of.ensures (P.pairs-good c.args.n c.requires.0)

pub returns : goal.returns
returns c = let s = c in T.named 8 c.put_word.ensures (omega arith) (P.eight-text s.args.n s.requires.0 (rw c.pairs_of.ensures at c.spread-w.ensures))
