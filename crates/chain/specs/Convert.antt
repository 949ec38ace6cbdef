-- Converting a point by a chain, forward (document 01: along) and inverse (back): every refusal in the order of the table, and the exact result.
use Rattle.std.specs.Prelude.{Bool, not, List, [], ◌∷◌, ◌++◌, reverse, leb, length, ℕ, Result, Ok, Err}
use Rattle.refusal.specs.Numbers as refusal
use Rattle.refusal.specs.Order.{Test, ◌gives◌, first, pick, unless}
use Rattle.chain.specs.declared.Position.{Position}
use Rattle.chain.specs.declared.Realization.{Realization}
use Rattle.chain.specs.declared.Point.{Point}
use Rattle.chain.specs.declared.Step.{Step}
use Rattle.chain.specs.declared.Direction.{Direction}
use Rattle.chain.specs.declared.Chain.{Chain}
use Rattle.chain.specs.declared.Arrival.{Arrival}
use Rattle.chain.specs.Faults.{in_area, same_realization, point_tests, chain_tests, steps_of}
use Rattle.chain.specs.Parts.{parts_of, forward_by, inverse_by}
use Rattle.chain.specs.Ways.{by_way}

-- ---- a step of a chain
abbrev pub forward_step : Step → Position → Position
forward_step s = forward_by (parts_of s)

abbrev pub inverse_step : Step → Position → Position
inverse_step s = inverse_by (parts_of s)

abbrev pub step_by : Direction → Step → Position → Position
step_by d s = by_way d (parts_of s)

-- ---- a walk over steps: each step's result is tested for the area, and its candidates on the way are not
pub data Walk : Type 0 where
  at : Position → Walk
  left : Walk

abbrev pub onward : Walk → (Position → Walk) → Walk
onward (at p) f = f p
onward left f = left

-- where a step arrives: there, where it is in the area
abbrev pub arrive : Position → Walk
arrive p = pick (in_area p) (at p) left

unfoldable pub walk : (Step → Position → Position) → List Step → Position → Walk
walk f [] p = at p
walk f (s ∷ ss) p = onward (arrive (f s p)) (walk f ss)

-- where it ends, or the refusal's number
abbrev pub ended : Walk → Result Position ℕ
ended (at p) = Ok p
ended left = Err refusal.left

-- ---- where a chain starts and where it ends. The empty chain does both wherever the point is
unfoldable pub start_of : Realization → List Step → Realization
start_of r [] = r
start_of r (s ∷ ss) = s.before

unfoldable pub end_of : Realization → List Step → Realization
end_of r [] = r
end_of r (s ∷ ss) = end_of s.after ss

-- ---- a step more after these: 5 where it does not begin where they end, then 6. The empty chain ends wherever a step begins
abbrev pub joins : List Step → Step → Bool
joins ss s = same_realization (end_of s.before ss) s.before

abbrev pub more_tests : List Step → Step → List Test
more_tests ss s = (not (joins ss s) gives refusal.join) ∷ (leb 8 (length ss) gives refusal.ninth) ∷ []

-- ---- the answer
-- the chain first, then the point: its numbers, whether it is where the chain wants it, and the area
abbrev pub realization_and_area_tests : Point → Realization → List Test
realization_and_area_tests p wanted = (not (same_realization p.realization wanted) gives refusal.start) ∷ (not (in_area p.position) gives refusal.area) ∷ []

abbrev pub conversion_tests : Chain → Point → Realization → List Test
conversion_tests c p wanted = chain_tests c ++ (point_tests c.profile p ++ realization_and_area_tests p wanted)

-- the point at another position: its label (id, issue and order) passes through
abbrev pub moved_to : Point → Realization → Position → Point
moved_to p r q = record { label = p.label; realization = r; position = q }

-- what a conversion answers: the point, or the refusal's number
abbrev pub Answer : Type 0
Answer = Result Point ℕ

unfoldable pub answer_of : Point → Realization → Walk → Answer
answer_of p r (at q) = Ok (moved_to p r q)
answer_of p r left = Err refusal.left

-- where an answer says that a point is, its label apart
abbrev pub arrival_of : Answer → Result Arrival ℕ
arrival_of (Ok q) = Ok (record { realization = q.realization; position = q.position })
arrival_of (Err n) = Err n

unfoldable pub convert : Chain → Point → Realization → Realization → Walk → Answer
convert c p wanted reached w = unless (first (conversion_tests c p wanted)) Err (answer_of p reached w)

-- forward: from the chain's start to its end, the first step first
unfoldable pub forward_of : Chain → Point → Answer
forward_of c p = convert c p (start_of p.realization (steps_of c)) (end_of p.realization (steps_of c)) (walk forward_step (steps_of c) p.position)

-- inverse: from the chain's end to its start, the last step first
unfoldable pub inverse_of : Chain → Point → Answer
inverse_of c p = convert c p (end_of p.realization (steps_of c)) (start_of p.realization (steps_of c)) (walk inverse_step (reverse (steps_of c)) p.position)
