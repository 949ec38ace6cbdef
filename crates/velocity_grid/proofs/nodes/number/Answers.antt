-- `velocity_grid::nodes::number` meets its contract. Assumes nothing.
use borrow.Author.Rules.{rules}
use mathlib.Core.Path.{sym}
use lib.IntN.{pos}
use lib.ListN.{get_or-eq_default}
use Rattle.velocity_grid.proofs.nodes.number.Goals as goal

pub returns : goal.returns
returns c = sym (get_or-eq_default c.args.nodes.now (pos 0) c.if-i-nodes.false)
