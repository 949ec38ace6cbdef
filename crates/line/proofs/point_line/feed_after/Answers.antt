-- `line::point_line::feed_after` meets its contract. Assumes nothing.
use Rattle.std.proofs.Common.{arith}
use Rattle.line.proofs.Lines.{piece}
use Rattle.line.proofs.point_line.feed_after.Goals as goal

pub overflow_sub-result : goal.overflow_sub-result
overflow_sub-result c = let l = piece _ _ _ c.line_end.ensures c.requires in omega arith

pub returns : goal.returns
returns c = let l = piece _ _ _ c.line_end.ensures c.requires in (omega arith, omega arith)
