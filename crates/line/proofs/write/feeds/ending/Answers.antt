-- `line::write::feeds::ending` meets its contract. Assumes nothing.
use Rattle.std.proofs.Common.{refl, arith}
use Rattle.line.proofs.Texts as T
use Rattle.line.proofs.write.feeds.ending.Goals as goal

pub returns : goal.returns
returns c =
    T.named 6 (T.after c.put-a.ensures (T.after c.put-b.ensures (T.after c.put-c.ensures (T.after c.put-d.ensures (T.after c.put-e.ensures c.put.ensures))))) (omega arith) refl
