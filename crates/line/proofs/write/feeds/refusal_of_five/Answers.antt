-- `line::write::feeds::refusal_of_five` meets its contract. Assumes nothing.
use Rattle.std.proofs.Common.{refl, arith}
use Rattle.line.proofs.Texts as T
use Rattle.line.proofs.write.feeds.refusal_of_five.Goals as goal

pub returns : goal.returns
returns c =
    T.named 13 (T.after c.letter-a.ensures (T.after c.pair-b.ensures (T.after c.pair-c.ensures (T.after c.put-d.ensures c.ending.ensures)))) (omega arith) refl
