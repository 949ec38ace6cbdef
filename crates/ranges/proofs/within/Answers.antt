-- `ranges::within` meets its contract: the machine reads each number back from its bits. Assumes nothing.
use mathlib.Core.Path.{ap₂}
use mathlib.Core.Bool.{◌&&◌}
use lib.Signed.{le_z}
use mir.Facts.{to_z-of_z}
use Rattle.ranges.specs.Ranges.{within}
use Rattle.ranges.proofs.within.Goals as goal

pub returns : goal.returns
unfolding within
returns c = ap₂ ◌&&◌ (ap₂ le_z (to_z-of_z c.ranges.lo) (to_z-of_z c.ranges.z)) (ap₂ le_z (to_z-of_z c.ranges.z) (to_z-of_z c.ranges.hi))
