-- `latest::judge::next_mark` meets its contract. Assumes nothing.
use borrow.Author.Tests.{eq-eqb, ne_eqb}
use Rattle.latest.proofs.judge.next_mark.Goals as goal

pub returns-then-prior-eq17 : goal.returns-then-prior-eq17
returns-then-prior-eq17 c = rw (c.if-same.true, eq-eqb c.args.prior 17 c.if-prior-eq17.true)

pub returns-then-alike : goal.returns-then-alike
returns-then-alike c = rw (c.if-same.true, ne_eqb c.args.prior 17 c.if-prior-eq17.false, c.if-alike.true)

pub returns-then-same : goal.returns-then-same
returns-then-same c = rw (c.if-same.true, ne_eqb c.args.prior 17 c.if-prior-eq17.false, c.if-alike.false)
