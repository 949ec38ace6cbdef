-- `velocity_grid::header::count` meets its contract. Assumes nothing.
use mathlib.Core.Path.{◌∙◌, ap, ap₂}
use Prim.Native.Nat.{ℕ, ◌*◌}
use native.Mathlib.Omega.{arith}
use lib.IntN.{ℤ, nat_abs}
use Rattle.rounding.proofs.Machine.{rd}
use Rattle.velocity_grid.specs.OnGrid.{size_range}
use Rattle.velocity_grid.proofs.header.count.Goals as goal

pub nodes-requires : goal.nodes-requires
nodes-requires c = ap₂ size_range (rd c.ranges.rows) (rd c.ranges.columns) ∙ c.requires

pub overflow_mul-result : goal.overflow_mul-result
overflow_mul-result c = record { fits = omega (arith, c.nodes.ensures.1) }

pub returns : goal.returns
returns c = ap (λ (n : ℕ). 3 * n) (c.nodes.ensures.0 ∙ ap₂ (λ (a b : ℤ). nat_abs a * nat_abs b) (rd c.ranges.rows) (rd c.ranges.columns))
