-- `line::second_look::letters::initial` meets its contract. Assumes nothing.
use Rattle.std.proofs.Common.{eq-eqb, ne_eqb}
use Rattle.line.proofs.second_look.letters.initial.Goals as goal

pub returns-then-mark-eq-GRID : goal.returns-then-mark-eq-GRID
returns-then-mark-eq-GRID c = rw (eq-eqb _ _ c.if-mark-eq-GRID.true)

pub returns-else-mark-eq-GRID : goal.returns-else-mark-eq-GRID
returns-else-mark-eq-GRID c = rw (ne_eqb _ _ c.if-mark-eq-GRID.false)
