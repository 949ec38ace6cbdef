-- `line::other_line::strange` meets its contract. Assumes nothing.
use Rattle.std.proofs.Common.{◌∙◌}
use Rattle.line.specs.Malformed.{end_of, unknown_shape, fault_of}
use Rattle.line.proofs.Formed as F
use Rattle.line.proofs.SecondLook as L
use Rattle.line.proofs.other_line.strange.Goals as goal

pub returns-in-Ok : goal.returns-in-Ok
unfolding fault_of
returns-in-Ok c =
    let line = c.args.line.now in
    c.found.ensures ∙ rw (F.bodied-some line _ c.in-Ok.ensures) (L.strange-fields c.in-Ok.field-0.now (end_of line))

pub returns-in-Err : goal.returns-in-Err
returns-in-Err c = F.too_long c.args.line.now _ unknown_shape c.in-Err.ensures
