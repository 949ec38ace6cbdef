-- `line::point_line::read_point` meets its contract. Assumes nothing.
use Rattle.std.proofs.Common.{to_z-of_z}
use Rattle.line.proofs.AsWritten.{one-read}
use Rattle.line.proofs.point_line.read_point.Goals as goal

pub returns : goal.returns
returns c = (one-read _ _ (rw (to_z-of_z c.ranges.profile) at c.read_one-r.ensures)).0
