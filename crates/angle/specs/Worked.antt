-- Opened, angles and what is rounded from them compute: a proof that works a case out names this alone, beside its own crate's names.
use Rattle.ranges.specs.Ranges.{within}
use Rattle.rounding.specs.Worked.{open_rounding}
use Rattle.elementary.specs.Worked.{open_functions}
use Rattle.angle.specs.Units.{k, radians, metres, seconds}
use Rattle.angle.specs.Ellipsoids.{ellipsoid_of, prime_vertical}

unfoldable pub open_angles : {A : Type 0} → A → A
unfolding within open_rounding open_functions k radians metres seconds ellipsoid_of prime_vertical
open_angles a = a
