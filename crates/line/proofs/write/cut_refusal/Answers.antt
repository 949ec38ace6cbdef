-- `line::write::cut_refusal` meets its contract. Assumes nothing.
use Rattle.line.proofs.Texts as T
use Rattle.line.proofs.write.cut_refusal.Goals as goal

pub returns : goal.returns
returns c =
    T.says (T.«then» c.letter-a.ensures (T.«then» c.natural-b.ensures (T.«then» c.byte-c.ensures (T.«then» c.natural-d.ensures (T.«then» c.byte-e.ensures (T.«then» c.natural-f.ensures c.byte.ensures))))))
    (rw (c.wide.ensures.0, c.wide-2.ensures.0) (T.refusal_is _ _ _))
