-- `line::write::roomy::packed::seven_digits` meets its contract. Assumes nothing.
use Rattle.std.proofs.Common.{arith}
use Rattle.line.proofs.Leading as D
use Rattle.line.proofs.write.roomy.packed.seven_digits.Goals as goal

pub returns : goal.returns
returns c = D.seven-of-eight c.eight_digits.ensures (omega arith) (omega arith)
