-- `line::node_line::hyphen_line` meets its contract. Assumes nothing.
use Rattle.std.proofs.Common.{eq-eqb, ne_eqb}
use Rattle.line.specs.Readers.{hyphen_line}
use Rattle.line.proofs.node_line.hyphen_line.Goals as goal

pub returns-then-line-ne2 : goal.returns-then-line-ne2
unfolding hyphen_line
returns-then-line-ne2 c = rw (ne_eqb _ _ c.if-line-ne2.true)

pub returns : goal.returns
unfolding hyphen_line
returns c = rw (eq-eqb _ _ c.if-line-ne2.false)
