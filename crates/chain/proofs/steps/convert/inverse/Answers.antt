-- `chain::steps::convert::inverse` meets its contract: it is the conversion in that direction. Assumes nothing.
use Rattle.chain.specs.PointRow.{convert_of}
use Rattle.chain.proofs.steps.convert.inverse.Goals as goal

pub returns : goal.returns
unfolding convert_of
returns c = c.convert.ensures
