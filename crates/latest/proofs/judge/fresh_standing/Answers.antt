-- `latest::judge::fresh_standing` meets its contract. Assumes nothing.
use borrow.Author.Tests.{eq-eqb, ne_eqb}
use Rattle.latest.proofs.judge.fresh_standing.Goals as goal

pub returns-then-mark-eq17 : goal.returns-then-mark-eq17
returns-then-mark-eq17 c = rw (eq-eqb c.args.mark 17 c.if-mark-eq17.true)

pub returns : goal.returns
returns c = rw (ne_eqb c.args.mark 17 c.if-mark-eq17.false)
