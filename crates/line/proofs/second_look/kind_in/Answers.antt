-- `line::second_look::kind_in` meets its contract. Assumes nothing.
use Rattle.std.proofs.Common.{ap}
use Rattle.line.specs.Fields.{fields}
use Rattle.line.specs.Malformed.{kind_of}
use Rattle.line.specs.SecondLook.{classes_of}
use Rattle.line.proofs.SecondLook as L
use Rattle.line.proofs.second_look.kind_in.Goals as goal

pub returns-then-mark-eq83 : goal.returns-then-mark-eq83
returns-then-mark-eq83 c = ap (classes_of c.args.mark) c.kind_of.ensures

pub returns-else-mark-eq83 : goal.returns-else-mark-eq83
returns-else-mark-eq83 c = let g = c.args in L.any-kind g.mark 0 (kind_of (fields g.s.now)) c.if-mark-eq83.false
