use Rattle.std.proofs.Common.{◌-◌}
use Rattle.line.proofs.Letters as L
use Rattle.line.proofs.second_look.letters.skip.Given as goal

abbrev pub invariant-loop : goal.invariant-loop
invariant-loop l = L.Skipping l.s l.many l.at (l.many - l.counter) l.i
