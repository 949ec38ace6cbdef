-- A day's points from C: rows of numbers, seven to a point and eight to an answer.
use Rattle.std.specs.Prelude.{ℕ, zero, suc, ◌*◌, ◌/◌, ◌%◌, Bool, not, ◌&&◌, ◌||◌, List, [], ◌∷◌, ◌++◌, eqb, ltb, ℤ, pos, length, drop, replicate, Ok, Err}
use Rattle.refusal.specs.Numbers as refusal
use Rattle.refusal.specs.Order.{Test, ◌gives◌, first, pick, unless}
use Rattle.chain.specs.declared.Point.{Point}
use Rattle.chain.specs.Convert.{Answer}
use Rattle.chain.specs.declared.Direction.{Direction}
use Rattle.chain.specs.declared.Direction.TheVariants.{Forward, Inverse}
use Rattle.chain.specs.Faults.{chain_tests}
use Rattle.chain.specs.PointRow.{convert_of}
use Rattle.capi.specs.Outcome.{CallOutcome, refused, gives as writes, if_sized}
use Rattle.chain.specs.Numbers.{is_letter, chain_from}
use Rattle.capi.specs.Chains.{point_from, point_numbers}

-- ---- the answers
-- the refusal number or 0, then the point's numbers: zeros beside a refusal
abbrev pub answer_numbers : Answer → List ℤ
answer_numbers (Ok p) = pos 0 ∷ point_numbers p
answer_numbers (Err n) = pos n ∷ replicate 7 (pos 0)

-- of n points, one after the other
unfoldable pub answers_of : (Point → Answer) → ℕ → List ℤ → List ℤ
answers_of f zero ns = []
answers_of f (suc n) ns = answer_numbers (f (point_from ns)) ++ answers_of f n (drop 7 ns)

-- ---- which way: 0 along the chain, 1 back
abbrev pub direction_range : ℤ → Bool
direction_range d = is_letter d 0 || is_letter d 1

unfoldable pub direction_from : ℤ → Direction
direction_from d = pick (is_letter d 1) Inverse Forward

-- ---- the call
-- whole steps, whole points, whole answers
unfoldable pub whole_rows : ℕ → ℕ → ℕ → Bool
whole_rows chain points answers = eqb (chain % 13) 0 && eqb (points % 7) 0 && eqb (answers % 8) 0

-- fewer answers than points: 26; then a direction that is neither: 2
abbrev pub lent_tests : ℤ → ℕ → ℕ → List Test
lent_tests d points answers = (ltb answers points gives refusal.row) ∷ (not (direction_range d) gives refusal.range) ∷ []

-- then the chain by itself; and where nothing is refused, each point's answer is the single conversion's, and the array past them stays
unfoldable pub row_call : ℤ → List ℤ → ℤ → List ℤ → List ℤ → CallOutcome ℤ
row_call y chain d points out =
    if_sized (whole_rows (length chain) (length points) (length out))
    (unless (first (lent_tests d (length points / 7) (length out / 8) ++ chain_tests (chain_from y chain))) refused
    (writes
    (answers_of (convert_of (chain_from y chain) (direction_from d)) (length points / 7) points ++ drop (length points / 7 * 8) out)))
