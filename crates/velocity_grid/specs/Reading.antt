-- How the code reads a grid's text, line by line.
use Rattle.std.specs.Prelude.{List, ℕ, eqb, length}
use Rattle.refusal.specs.Order.{pick}
use Rattle.line.specs.Readers.{read_node}
use Rattle.velocity_grid.specs.Answers.{GridFault}
use Rattle.velocity_grid.specs.Text.{miscounted, node_fault}

-- the next awaited line: past the end of the text it is empty, and missing
unfoldable pub awaited_fault : ℕ → List ℕ → GridFault
unfolding node_fault
awaited_fault n line = pick (eqb (length line) 0) miscounted (node_fault n (read_node line))
