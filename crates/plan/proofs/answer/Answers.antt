-- `plan::answer` meets its contract: with the room that the input asks for. Assumes nothing.
use mathlib.Core.Path.{sym}
use lib.Seq.{length-take-le}
use Rattle.listing.proofs.Room.{whole-text}
use Rattle.plan.proofs.answer.Goals as goal

pub slice_bounds-result-end : goal.slice_bounds-result-end
slice_bounds-result-end c = sym (length-take-le _ _ (whole-text c.requires c.plan-past.ensures).0)

pub returns : goal.returns
returns c = (whole-text c.requires c.plan-past.ensures).1
