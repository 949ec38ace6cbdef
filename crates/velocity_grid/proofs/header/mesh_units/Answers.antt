-- `velocity_grid::header::mesh_units` meets its contract. Assumes nothing.
use mathlib.Core.Path.{◌≡◌, refl}
use native.Mathlib.Omega.{arith}
use lib.IntN.{pos, ◌*ℤ◌}
use mir.Syntax.{w64}
use mir.Val.{SFits}
use Rattle.rounding.proofs.Machine.{fits, rd, rd*, fit*}
use Rattle.velocity_grid.proofs.OnGrid.{mesh-between, size_is}
use Rattle.velocity_grid.proofs.header.mesh_units.Tie as tie
use Rattle.velocity_grid.proofs.header.mesh_units.Lts as lts
use Rattle.velocity_grid.proofs.header.mesh_units.Reads as reads
use Rattle.velocity_grid.proofs.header.mesh_units.Goals as goal

abbrev TheStart : Type 0
TheStart = lts.Start reads.Pre reads.Post

minute : pos 6000000 ≡ pos 6000000
minute = refl

product : (s : TheStart) → SFits w64 (s.args.m *ℤ pos 6000000)
product s = fits 60000000 (size_is (mesh-between s.args.m s.requires)) (omega arith)

pub overflow_mul-result : goal.overflow_mul-result
overflow_mul-result c = fit* (rd c.ranges.m) minute (product c)

pub returns : goal.returns
returns c = rd* (rd c.ranges.m) minute (product c)
