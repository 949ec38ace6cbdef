use Rattle.latest.proofs.Judging.{Judging}
use Rattle.latest.proofs.judge.judge.Given as goal

abbrev pub invariant-loop-k : goal.invariant-loop-k
invariant-loop-k l = Judging l.rows l.o l.v l.k l.standing
