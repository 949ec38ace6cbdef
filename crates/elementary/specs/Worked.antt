-- Opened, the elementary functions compute: a proof that works a case out names this alone.
use Rattle.elementary.specs.Series.{sine_of, cosine_of, arctan_small_of}
use Rattle.elementary.specs.Root.{root_of}
use Rattle.elementary.specs.Half.{arctangent_of, arcsine_of}
use Rattle.elementary.specs.Hyperbolic.{sinh_of, cosh_of, artanh_of}

unfoldable pub open_functions : {A : Type 0} → A → A
unfolding root_of sine_of cosine_of arctan_small_of arctangent_of arcsine_of sinh_of cosh_of artanh_of
open_functions a = a
