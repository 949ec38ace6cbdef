-- A whole sheet, or a whole plan: the text that it prints, from the start of the array on.
use Rattle.std.specs.Prelude.{◌≡◌, Bool, List, ◌++◌, ℕ, leb, ℤ, pos, neg_ℤ, length, drop}
use Rattle.refusal.specs.Order.{pick}
use Rattle.listing.specs.Fold.{room_for}

abbrev pub roomy : List ℕ → List ℕ → Bool
roomy input out = leb (room_for (length input)) (length out)

-- with the room that the input asks for, the call returns the text's length, and the array, which held `before` and holds `after`, begins with the text and is
-- untouched past it; without it, the call returns minus the wrong length's number and nothing is written
pub record Printed (text input before after : List ℕ) (r : ℤ) : Type 0 where
  pub status : r ≡ pick (roomy input before) (pos (length text)) (neg_ℤ (pos 255))
  pub out : after ≡ pick (roomy input before) (text ++ drop (length text) before) before
