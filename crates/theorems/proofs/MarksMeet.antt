-- The worked positions that meet, by computation, and a pair to which the theorem on two marks applies. Assumes nothing.
use Rattle.std.specs.Prelude.{Err}
use mathlib.Core.Path.{◌≡◌, refl, sym, ap, ◌∙◌}
use mathlib.Core.List.{List, map}
use Prim.Native.Nat.{ℕ}
use lib.Dec.{lit<}
use lib.IntN.{pos}
use lib.ListN.{get_or}
use Rattle.chain.specs.Axes.{on_x}
use Rattle.chain.specs.Case as cases
use Rattle.chain.specs.Case.{answer, expected}
use Rattle.chain.proofs.Ends.{forward-case}
use Rattle.theorems.specs.MarksMeet.{scaling, meeting, MarksMeet, Applies}
use Rattle.chain.specs.Convert.{Answer}

pub marks-meet : MarksMeet
unfolding answer
marks-meet = refl

-- the answers, each by its index in the list
answers : (n : ℕ) → get_or (map answer meeting) n (Err 0) ≡ get_or (map expected meeting) n (Err 0)
answers n = ap (λ (l : List Answer). get_or l n (Err 0)) marks-meet

pub applies : Applies
applies = record {
  chain = cases.chain (scaling (cases.less 1999993)) (cases.on 1 0) (cases.on 2 0);
  p = cases.point (cases.on 1 0) (cases.xyz (cases.less 199999975000) (pos 600000000000) (pos 50000000000));
  q = cases.point (cases.on 1 0) (cases.xyz (cases.less 199999974998) (pos 600000000000) (pos 50000000000));
  p' = cases.point (cases.on 2 0) (cases.xyz (cases.less 199995975014) (pos 599988000042) (pos 49999000004));
  q' = cases.point (cases.on 2 0) (cases.xyz (cases.less 199995975013) (pos 599988000042) (pos 49999000004));
  beyond = record { axis = on_x; far = lit< tt };
  one = sym (forward-case _ _ _ _ _) ∙ answers 0;
  other = sym (forward-case _ _ _ _ _) ∙ answers 2;
}
