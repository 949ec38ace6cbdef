-- `latest::judge::settled` meets its contract. Assumes nothing.
use borrow.Author.Tests.{eq-eqb, ne_eqb}
use Rattle.latest.proofs.judge.settled.Goals as goal

pub returns-then-standing-eq1 : goal.returns-then-standing-eq1
returns-then-standing-eq1 c = rw (eq-eqb c.args.standing 1 c.if-standing-eq1.true)

pub returns : goal.returns
returns c = rw (ne_eqb c.args.standing 1 c.if-standing-eq1.false)
