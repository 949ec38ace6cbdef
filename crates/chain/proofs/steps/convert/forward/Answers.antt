-- `chain::steps::convert::forward` meets its contract: it is the conversion in that direction. Assumes nothing.
use Rattle.chain.specs.PointRow.{convert_of}
use Rattle.chain.proofs.steps.convert.forward.Goals as goal

pub returns : goal.returns
unfolding convert_of
returns c = c.convert.ensures
