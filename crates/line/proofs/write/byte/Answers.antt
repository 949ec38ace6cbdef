-- `line::write::byte` meets its contract. Assumes nothing.
use lib.Seq.{set_out}
use Rattle.std.proofs.Common.{sym, arith}
use Rattle.line.proofs.write.byte.Goals as goal

pub returns-else-at-out : goal.returns-else-at-out
returns-else-at-out c = let g = c.args in record { place = omega arith; list = sym (set_out g.out.now g.at g.b (omega arith)) }
