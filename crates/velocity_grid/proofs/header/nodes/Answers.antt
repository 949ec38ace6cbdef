-- `velocity_grid::header::nodes` meets its contract. Assumes nothing.
use borrow.Author.Rules.{rules}
use mathlib.Core.Path.{◌≡◌, ◌∙◌, ap₂}
use Prim.Native.Nat.{◌*◌, ◌≤◌}
use native.Mathlib.Nat as NatL
use native.Mathlib.Omega.{arith}
use lib.IntN.{ℤ, pos, nat_abs}
use mir.Syntax.{w64}
use mir.Val.{to_z, of_z}
use Rattle.rounding.proofs.Machine.{rd}
use Rattle.velocity_grid.proofs.OnGrid.{Sized, sized, few}
use Rattle.velocity_grid.proofs.header.nodes.Tie as tie
use Rattle.velocity_grid.proofs.header.nodes.Lts as lts
use Rattle.velocity_grid.proofs.header.nodes.Reads as reads
use Rattle.velocity_grid.proofs.header.nodes.Goals as goal

abbrev TheStart : Type 0
TheStart = lts.Start reads.Pre reads.Post

module _ (s : TheStart) where
  size : Sized s.args.rows s.args.columns
  size = sized s.args.rows s.args.columns s.requires

  rows_is : to_z w64 (of_z w64 s.args.rows) ≡ pos size.rows.n
  rows_is = rd s.ranges.rows ∙ size.rows.is

  columns-is : to_z w64 (of_z w64 s.args.columns) ≡ pos size.columns.n
  columns-is = rd s.ranges.columns ∙ size.columns.is

  small : size.rows.n * size.columns.n ≤ 2000 * 2000
  small = NatL.mul-le-mul size.rows.high size.columns.high

  fewer : size.rows.n * size.columns.n ≤ 4000
  fewer = few size.rows.n size.columns.n s.args.rows s.args.columns size.rows.is size.columns.is size.nodes

pub overflow_cast-result : goal.overflow_cast-result
overflow_cast-result c = let h = (size c).rows.high in rw (rows_is c) (tt, record { fits = omega arith })

pub overflow_cast-result-2 : goal.overflow_cast-result-2
overflow_cast-result-2 c = let h = (size c).columns.high in rw (columns-is c) (tt, record { fits = omega arith })

pub overflow_mul-result : goal.overflow_mul-result
overflow_mul-result c = let h = small c in rw (rows_is c, columns-is c) (record { fits = omega arith })

pub returns : goal.returns
returns c = (ap₂ (λ (a b : ℤ). nat_abs a * nat_abs b) (rd c.ranges.rows) (rd c.ranges.columns), rw (rows_is c, columns-is c) (fewer c))
