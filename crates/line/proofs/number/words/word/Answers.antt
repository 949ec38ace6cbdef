-- `line::number::words::word` meets its contract. Assumes nothing.
use Rattle.std.proofs.Common.{arith}
use Rattle.line.proofs.Words as W
use Rattle.line.proofs.number.words.word.Goals as goal

pub returns : goal.returns
returns c =
    record {
      is =
          rw (c.wide.ensures.0, c.wide-2.ensures.0, c.wide-3.ensures.0, c.wide-4.ensures.0)
          (rw (c.wide-5.ensures.0, c.wide-6.ensures.0, c.wide-7.ensures.0, c.wide-8.ensures.0) (W.word-is c.args.s.now c.args.at));
      small = λ i. omega (arith, c.type_inv.s i);
    }
