use mathlib.Core.Path.{◌≡◌}
use lib.ListN.{drop}
use Rattle.elementary.specs.Series.{horner_from}
use Rattle.elementary.proofs.series.polynomial.Given as goal

-- what is left to do equals the whole
abbrev pub invariant-loop-c : goal.invariant-loop-c
invariant-loop-c l = horner_from l.y l.s (drop l.c-index l.c-items) ≡ horner_from l.y l.initial.s l.c-items
