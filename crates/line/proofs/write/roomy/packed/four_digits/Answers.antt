use Rattle.std.proofs.Common.{◌/◌, ◌%◌, arith}
use Rattle.line.proofs.Texts as T
use Rattle.line.proofs.Packed as P
use Rattle.line.proofs.write.roomy.packed.four_digits.Goals as goal

pub spread-w-requires : goal.spread-w-requires
spread-w-requires c = let s = c in P.two_good (s.args.n % 100) (s.args.n / 100) (omega arith) (omega (arith, s.requires.0))

pub returns : goal.returns
returns c = let s = c in T.named 4 c.put_half.ensures (omega arith) (P.half-text (P.two-half (s.args.n % 100) (s.args.n / 100) (omega arith) (omega (arith, s.requires.0)) c.spread-w.ensures))
