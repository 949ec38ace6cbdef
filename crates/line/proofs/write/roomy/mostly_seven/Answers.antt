-- `line::write::roomy::mostly_seven` meets its contract. Assumes nothing.
use Rattle.std.proofs.Common.{refl, arith}
use Rattle.line.proofs.Texts as T
use Rattle.line.proofs.Leading as D
use Rattle.line.proofs.write.roomy.mostly_seven.Goals as goal

pub returns-then-n-lt-TEN_MILLION : goal.returns-then-n-lt-TEN_MILLION
returns-then-n-lt-TEN_MILLION c =
    T.named 21 (D.after 1 c.seven_digits-a.ensures c.put.ensures (omega arith) (omega arith))
    (omega arith) refl

pub returns : goal.returns
returns c = T.both 21 c.digits-a.ensures c.put-2.ensures (omega arith) refl
