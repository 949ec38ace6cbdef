-- `plan::print_short` meets its contract: a short room is enough for a short input. Assumes nothing.
use native.Mathlib.Omega.{arith}
use lib.ListN.{length}
use Rattle.listing.proofs.Room.{short-fits}
use Rattle.plan.proofs.print_short.Goals as goal

pub answer-whole-requires : goal.answer-whole-requires
answer-whole-requires g c = omega (arith, short-fits (length c.args.text.now) c.requires)
