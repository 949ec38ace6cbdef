-- `line::form::body` meets its contract. Assumes nothing.
use Rattle.std.proofs.Common.{arith}
use Rattle.line.proofs.Malformed.{end_low}
use Rattle.line.proofs.form.body.Goals as goal

pub found-requires : goal.found-requires
found-requires c = omega (arith, c.end_of-last.ensures, end_low c.args.line.now)
