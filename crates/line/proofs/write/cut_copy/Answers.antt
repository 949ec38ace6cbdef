-- `line::write::cut_copy` meets its contract. Assumes nothing.
use Rattle.std.proofs.Common.{take, sym, ◌∙◌, arith}
use Rattle.std.proofs.lemmas.List.{take_min, take_all}
use Rattle.line.proofs.Moved as M
use Rattle.line.proofs.Texts as T
use Rattle.line.proofs.write.cut_copy.Goals as goal

pub loop-b-init : goal.loop-b-init
loop-b-init c = (omega arith, T.nothing _ _)

pub loop-b-preserved : goal.loop-b-preserved
loop-b-preserved c =
    let k = c.loop-b in
    (omega arith, T.says (T.«then» k.invariant.1 c.byte-p.ensures) (sym (M.take_next (take c.min.result c.args.line.now) k.b-index (omega arith))))

pub shape_of-out : goal.shape_of-out
shape_of-out c = T.same_size c.loop-b.invariant.1

pub returns : goal.returns
returns c =
    let k = c.loop-b in
    let line = c.args.line.now in
    T.says k.invariant.1 (take_all k.b-index (take c.min.result line) (omega arith) ∙ rw c.min.ensures (take_min c.args.place line))
