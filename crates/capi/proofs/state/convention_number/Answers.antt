-- `capi::state::convention_number` meets its contract. Assumes nothing.
use Rattle.capi.proofs.state.convention_number.Goals as goal

pub returns-in-PositionVector : goal.returns-in-PositionVector
returns-in-PositionVector c = rw c.in-PositionVector.is

pub returns-in-CoordinateFrame : goal.returns-in-CoordinateFrame
returns-in-CoordinateFrame c = rw c.in-CoordinateFrame.is
