-- `line::write::roomy::short` meets its contract. Assumes nothing.
use Rattle.std.proofs.Common.{refl, arith}
use Rattle.line.proofs.Texts as T
use Rattle.line.proofs.write.roomy.short.Goals as goal

pub returns : goal.returns
returns c =
    T.named 5 (T.after (rw c.wide.ensures.0 at c.up_to_four-a.ensures) c.put.ensures) (omega arith) refl
