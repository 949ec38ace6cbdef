-- `velocity_grid::locate::axis_cell` meets its contract: the test is the definition's. Assumes nothing.
use borrow.Author.Rules.{rules}
use borrow.Author.Tests.{lt-ltb, le-ltb}
use Prim.Native.Nat.{◌+◌, ◌/◌}
use native.Mathlib.Nat as NatL
use native.Mathlib.Omega.{arith}
use Rattle.velocity_grid.specs.OnGrid.{axis_cell_of}
use Rattle.velocity_grid.proofs.locate.axis_cell.Goals as goal

pub overflow_add-cell : goal.overflow_add-cell
overflow_add-cell c = let h = c.requires.2 in omega (arith, NatL.div-le_self c.args.d c.args.m)

pub returns-then-cell-count : goal.returns-then-cell-count
unfolding axis_cell_of
returns-then-cell-count c = let s = c in rw (lt-ltb (s.args.d / s.args.m + 1) s.args.count c.if-cell-count.true)

pub returns : goal.returns
unfolding axis_cell_of
returns c = let s = c in rw (le-ltb (s.args.d / s.args.m + 1) s.args.count c.if-cell-count.false)
