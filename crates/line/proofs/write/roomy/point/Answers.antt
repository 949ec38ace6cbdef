-- `line::write::roomy::point` meets its contract. Assumes nothing.
use Rattle.std.proofs.Common.{arith}
use Rattle.line.specs.Text.{label_text}
use Rattle.line.proofs.Moved as M
use Rattle.line.proofs.Texts as T
use Rattle.line.proofs.write.roomy.point.Goals as goal

pub returns : goal.returns
unfolding label_text
returns c =
    T.named 173 (T.after c.letter-a.ensures (T.after c.label-b.ensures c.moved.ensures)) (omega arith)
    (M.labelled c.args.p.label c.args.p.realization c.args.p.position)
