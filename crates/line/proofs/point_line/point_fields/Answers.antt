-- `line::point_line::point_fields` meets its contract. Assumes nothing.
use Rattle.line.proofs.Places.{point-told}
use Rattle.line.proofs.point_line.point_fields.Goals as goal

pub returns : goal.returns
returns c =
    rw c.told.ensures
    (point-told c.letter-at.ensures c.name-named.ensures c.number-issue.ensures c.number-order.ensures c.number-datum.ensures c.number-epoch.ensures c.number-x.ensures c.number-y.ensures c.number-z.ensures)
