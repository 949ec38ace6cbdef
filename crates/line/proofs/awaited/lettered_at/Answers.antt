-- `line::awaited::lettered_at` meets its contract. Assumes nothing.
use Rattle.std.proofs.Common.{◌≡◌, ℕ, ◌-◌, ◌<◌, [], ◌∷◌, sym, ◌∙◌, subst, arith}
use lib.ListN.{get_elem?}
use Rattle.line.specs.Malformed.{letters}
use Rattle.line.specs.SecondLook.{step_rest, lettered_of}
use Rattle.line.proofs.SecondLook as L
use Rattle.line.proofs.awaited.lettered_at.Goals as goal

of_step : (first kind i : ℕ) → first ≡ 83 → 0 < i → get_elem? (step_rest kind) (i - 1) ≡ get_elem? (lettered_of first kind) i
of_step first kind i e h =
    let P : ℕ → Type 0 = λ x. get_elem? (step_rest kind) (i - 1) ≡ get_elem? (lettered_of x kind) i in
    subst P (sym e) (sym (L.later (letters (83 ∷ [])) (step_rest kind) i (i - 1) (omega arith)))

pub returns-in-83 : goal.returns-in-83
returns-in-83 c = let g = c.args in c.step_at.ensures ∙ of_step g.first g.kind g.index c.in-83.is (omega arith)
