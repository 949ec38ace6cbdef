-- What the call answers, and what stands in the tracker's buffer after it.
use Rattle.std.specs.Prelude.{◌≡◌, List, ◌++◌, ℕ, ℤ, pos, neg_ℤ, length, drop, Ok, Err}
use Rattle.line.specs.Lot.{lot_text}
use Rattle.lot_plan.specs.LotPlan.{Laid}

-- the line's length with its line feed, or the refusal number negated
abbrev pub length_of : Laid → ℤ
length_of (Ok lot) = pos (length (lot_text lot.label lot.easting lot.northing))
length_of (Err n) = neg_ℤ (pos n)

-- the buffer begins with the line and is untouched past it; on a refusal nothing is written
abbrev pub buffer_of : Laid → List ℕ → List ℕ
buffer_of (Ok lot) before = lot_text lot.label lot.easting lot.northing ++ drop (length (lot_text lot.label lot.easting lot.northing)) before
buffer_of (Err n) before = before

-- both, of a buffer that held `before` and holds `after`
pub record Drawn (lot : Laid) (before after : List ℕ) (r : ℤ) : Type 0 where
  pub answer : r ≡ length_of lot
  pub buffer : after ≡ buffer_of lot before
