-- `latest::room_for` meets its contract. Assumes nothing.
use mathlib.Core.Path.{ap}
use Prim.Native.Nat.{ℕ, ◌+◌, ◌*◌}
use Rattle.latest.specs.Call.{room_for}
use Rattle.latest.proofs.room_for.Goals as goal

pub returns : goal.returns
unfolding room_for
returns c = ap (λ (n : ℕ). 15 * n + 9) c.min.ensures
