-- `line::second_look::letters::skip` meets its contract. Assumes nothing.
use Rattle.std.proofs.Common.{◌≡◌, ◌+◌, ◌-◌, arith}
use Rattle.line.proofs.Letters as L
use Rattle.line.proofs.second_look.letters.skip.Goals as goal

pub loop-init : goal.loop-init
loop-init c = let e : c.args.many - 0 ≡ c.args.many = omega arith in rw e L.skipping

pub returns-then-s-i : goal.returns-then-s-i
returns-then-s-i c = L.skipped-past c.loop.invariant c.if-s-i.true

pub loop-preserved : goal.loop-preserved
loop-preserved c = let k = c.loop in L.skipping-on k.invariant (c.args.many - (k.counter + 1)) c.after-i.ensures (omega arith)

pub returns : goal.returns
returns c = L.skipped c.loop.invariant (omega arith)
