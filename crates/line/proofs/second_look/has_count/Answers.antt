-- `line::second_look::has_count` meets its contract. Assumes nothing.
use Rattle.std.proofs.Common.{ℕ, arith, ap₂}
use Rattle.std.specs.Prelude.{◌==◌}
use Rattle.line.proofs.second_look.has_count.Goals as goal

pub returns : goal.returns
returns c = ap₂ (λ (a b : ℕ). a == b) (omega (arith, c.tabs-parted.ensures)) c.count_of.ensures
