-- `velocity_grid::locate::node_number` meets its contract. Assumes nothing.
use mathlib.Core.Path.{refl}
use native.Mathlib.Nat as NatL
use native.Mathlib.Omega.{arith}
use Rattle.velocity_grid.proofs.locate.node_number.Goals as goal

pub overflow_mul-result : goal.overflow_mul-result
overflow_mul-result c = omega (arith, NatL.mul-le-mul c.requires.0 c.requires.1)

pub overflow_add-result : goal.overflow_add-result
overflow_add-result c = let h = c.requires.2 in omega (arith, NatL.mul-le-mul c.requires.0 c.requires.1)
