-- Opened, rounding computes: a proof that works a case out names this alone.
use Rattle.rounding.specs.Nearest.{away, to_even, rounded}
use Rattle.rounding.specs.Decimals.{rounded_of}

unfoldable pub open_rounding : {A : Type 0} → A → A
unfolding away to_even rounded rounded_of
open_rounding a = a
