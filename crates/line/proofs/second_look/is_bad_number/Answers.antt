-- `line::second_look::is_bad_number` meets its contract. Assumes nothing.
use Rattle.std.proofs.Common.{refl, arith}
use Rattle.refusal.specs.Numbers as refusal
use Rattle.line.specs.Malformed.{number}
use Rattle.line.proofs.SecondLook as L
use Rattle.line.proofs.second_look.is_bad_number.Goals as goal

pub returns-in-Number : goal.returns-in-Number
returns-in-Number c = rw (c.in-Number.is, c.is_read.ensures) (L.bad number refusal.plain (omega arith) c.number.ensures c.requires (λ f. refl))
