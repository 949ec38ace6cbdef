-- `latest::rows_for` meets its contract. Assumes nothing.
use mathlib.Core.Path.{ap}
use Prim.Native.Nat.{ℕ, ◌/◌}
use Rattle.latest.specs.Call.{rows_for}
use Rattle.latest.proofs.rows_for.Goals as goal

pub returns : goal.returns
unfolding rows_for
returns c = ap (λ (n : ℕ). n / 18) c.min.ensures
