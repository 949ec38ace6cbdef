-- `line::write::roomy::packed::mostly_four` meets its contract. Assumes nothing.
use Rattle.std.proofs.Common.{arith}
use Rattle.line.proofs.Leading as D
use Rattle.line.proofs.write.roomy.packed.mostly_four.Goals as goal

pub returns-then-n-ge1000 : goal.returns-then-n-ge1000
returns-then-n-ge1000 c = D.all-four c.four_digits.ensures (omega arith) (omega arith) (omega arith)

pub returns-then-n-ge100 : goal.returns-then-n-ge100
returns-then-n-ge100 c = D.three-of-four c.four_digits-then-n-ge100.ensures (omega arith) (omega arith)
