use borrow.Author.Rules.{rules}
use native.Mathlib.Omega.{arith}
use Prim.Native.Nat.{◌-◌}
use mathlib.Core.Path.{◌∙◌}
use lib.ListN.{length}
use Rattle.line.proofs.Lines.{piece}
use Rattle.velocity_grid.proofs.Texts as T
use Rattle.velocity_grid.proofs.text.fill.Given as goal

abbrev pub invariant-loop-from : goal.invariant-loop-from
invariant-loop-from l = T.Filling l.text l.start l.initial.nodes l.from l.at l.nodes

abbrev pub decreases-loop-from : goal.decreases-loop-from
decreases-loop-from l = length l.text - l.from
