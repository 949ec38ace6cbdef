-- `capi::row::direction_from` meets its contract. Assumes nothing.
use borrow.Author.Rules.{rules}
use mathlib.Core.Path.{◌≡◌}
use lib.IntN.{pos}
use Rattle.capi.specs.PointRow.{direction_from}
use Rattle.capi.proofs.row.direction_from.Goals as goal

pub returns-in-0 : goal.returns-in-0
unfolding direction_from
returns-in-0 c = let e : c.args.direction ≡ pos 0 = search rules in rw e

pub returns-in-1 : goal.returns-in-1
unfolding direction_from
returns-in-1 c = let e : c.args.direction ≡ pos 1 = search rules in rw e
