use mathlib.Core.Path.{◌≡◌}
use Rattle.chain.specs.PointRow.{convert_of}
use Rattle.chain.proofs.RowLaws.{cur}
use Rattle.chain.proofs.row.convert_row_numbered.Given as goal

-- after i turns the first i answers are those of the first i points, and the others are as they were
abbrev pub invariant-loop-i : goal.invariant-loop-i
invariant-loop-i l = l.answers ≡ cur (convert_of l.fn.chain l.direction) l.points l.initial.answers l.i
