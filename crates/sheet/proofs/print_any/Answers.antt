-- `sheet::print_any` meets its contract: the largest room is enough. Assumes nothing.
use native.Mathlib.Omega.{arith}
use lib.ListN.{length}
use Rattle.listing.proofs.Room.{any-fits}
use Rattle.sheet.proofs.print_any.Goals as goal

pub answer-whole-requires : goal.answer-whole-requires
answer-whole-requires g c = omega (arith, any-fits (length c.args.text.now))
