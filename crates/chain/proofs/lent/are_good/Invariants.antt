use mathlib.Core.Path.{◌≡◌}
use lib.ListN.{drop}
use Rattle.chain.specs.Numbers.{steps_in, all_follow, good_steps}
use Rattle.chain.proofs.lent.are_good.Given as goal

-- what is left from index i on decides what the whole does
abbrev pub invariant-loop-i : goal.invariant-loop-i
invariant-loop-i l = all_follow l.profile l.end (drop l.i (steps_in l.steps)) ≡ good_steps l.profile (steps_in l.steps)
