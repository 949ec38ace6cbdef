-- `line::second_look::is_bad_id` meets its contract. Assumes nothing.
use Rattle.std.proofs.Common.{refl, arith}
use Rattle.refusal.specs.Numbers as refusal
use Rattle.line.specs.Malformed.{identifier}
use Rattle.line.proofs.SecondLook as L
use Rattle.line.proofs.second_look.is_bad_id.Goals as goal

pub returns-in-Identifier : goal.returns-in-Identifier
returns-in-Identifier c = rw (c.in-Identifier.is, c.is_read.ensures) (L.bad identifier refusal.id (omega arith) c.name.ensures c.requires (λ f. refl))
