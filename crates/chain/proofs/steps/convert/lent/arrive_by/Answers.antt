-- `chain::steps::convert::lent::arrive_by` meets its contract: it is the conversion forward. Assumes nothing.
use Rattle.std.proofs.Common.{ap, ◌∙◌}
use lib.IntN.{ℤ}
use Rattle.rounding.proofs.Machine.{rd}
use Rattle.chain.specs.Convert.{arrival_of, forward_of}
use Rattle.chain.specs.Numbers.{chain_from}
use Rattle.chain.specs.PointRow.{convert_of}
use Rattle.chain.proofs.steps.convert.lent.arrive_by.Goals as goal

pub returns : goal.returns
unfolding convert_of
returns c = let s = c.args in c.arrive.ensures ∙ ap (λ (y : ℤ). arrival_of (forward_of (chain_from y s.steps.now) s.point)) (rd c.ranges.profile)
