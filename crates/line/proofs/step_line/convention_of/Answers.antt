-- `line::step_line::convention_of` meets its contract. Assumes nothing.
use Rattle.std.proofs.Common.{eq-eqb, ne_eqb}
use Rattle.line.proofs.step_line.convention_of.Goals as goal

pub returns-then-l-eq80 : goal.returns-then-l-eq80
returns-then-l-eq80 c = rw (eq-eqb _ _ c.if-l-eq80.true)

pub returns-else-l-eq80 : goal.returns-else-l-eq80
returns-else-l-eq80 c = rw (ne_eqb _ _ c.if-l-eq80.false)
