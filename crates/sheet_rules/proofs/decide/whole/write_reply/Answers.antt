-- `sheet_rules::decide::whole::write_reply` meets its contract. Assumes nothing.
use Rattle.line.proofs.Texts.{nothing}
use Rattle.sheet_rules.proofs.decide.whole.write_reply.Goals as goal

pub returns-in-Nothing : goal.returns-in-Nothing
returns-in-Nothing c = rw c.in-Nothing.is (nothing _ _)

pub returns-in-Point : goal.returns-in-Point
returns-in-Point c = rw c.in-Point.is c.write_point.ensures

pub returns-in-Refused : goal.returns-in-Refused
returns-in-Refused c = rw c.in-Refused.is c.write_refusal.ensures
