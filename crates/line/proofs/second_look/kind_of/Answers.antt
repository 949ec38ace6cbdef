-- `line::second_look::kind_of` meets its contract. Assumes nothing.
use Rattle.std.proofs.Common.{sym, ◌∙◌, leb-true}
use Rattle.std.proofs.lemmas.Bool.{leb-false}
use Rattle.line.proofs.SecondLook as L
use Rattle.line.proofs.second_look.kind_of.Goals as goal

pub returns-then-is_read : goal.returns-then-is_read
returns-then-is_read c = L.kind-read c.after.ensures c.single-c.ensures (leb-true _ _ (sym c.is_read.ensures ∙ c.if-is_read.true))

pub returns-else-is_read : goal.returns-else-is_read
returns-else-is_read c = L.kind-none c.after.ensures c.single-c.ensures (leb-false _ _ (sym c.is_read.ensures ∙ c.if-is_read.false))
