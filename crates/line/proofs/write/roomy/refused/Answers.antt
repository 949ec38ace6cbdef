-- `line::write::roomy::refused` meets its contract. Assumes nothing.
use Rattle.std.proofs.Common.{arith}
use Rattle.line.proofs.Texts as T
use Rattle.line.proofs.write.roomy.refused.Goals as goal

pub returns : goal.returns
returns c =
    T.named 33 (T.after c.letter-a.ensures (T.after c.digits-b.ensures (T.after c.put-c.ensures (T.after c.short-d.ensures c.short.ensures)))) (omega arith) (T.refusal-put _ _ _)
