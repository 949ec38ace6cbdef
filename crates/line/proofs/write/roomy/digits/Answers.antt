use Rattle.std.proofs.Common.{arith}
use Rattle.line.proofs.Lengths.{length-decimal}
use Rattle.line.proofs.write.roomy.digits.Goals as goal

pub returns : goal.returns
returns c = let s = c in record { wrote = c.natural.ensures; most = omega (arith, c.natural.ensures.place, length-decimal 19 s.args.n (omega (arith, s.ranges.n.fits))) }
