-- `latest::print::print_good` meets its contract. Assumes nothing.
use borrow.Author.Tests.{eq-eqb, ne_eqb}
use Rattle.line.proofs.Texts.{nothing}
use Rattle.latest.proofs.print.print_good.Goals as goal

pub returns-then-verdict-eq17 : goal.returns-then-verdict-eq17
returns-then-verdict-eq17 c = rw (eq-eqb c.args.verdict 17 c.if-verdict-eq17.true) (rw c.number.ensures at c.write_refusal.ensures)

pub returns-then-stop : goal.returns-then-stop
returns-then-stop c = rw (ne_eqb c.args.verdict 17 c.if-verdict-eq17.false, eq-eqb c.args.verdict 1 c.if-verdict-eq1.true, c.if-stop.true) (nothing _ _)

pub returns-then-verdict-eq1 : goal.returns-then-verdict-eq1
returns-then-verdict-eq1 c = rw (ne_eqb c.args.verdict 17 c.if-verdict-eq17.false, eq-eqb c.args.verdict 1 c.if-verdict-eq1.true, c.if-stop.false)
    c.write_point.ensures

pub returns : goal.returns
returns c = rw (ne_eqb c.args.verdict 17 c.if-verdict-eq17.false, ne_eqb c.args.verdict 1 c.if-verdict-eq1.false) (nothing _ _)
