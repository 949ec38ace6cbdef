-- The call over lent bytes and lent work space: how much of both it asks for, and what it answers.
use Rattle.std.specs.Prelude.{ℕ, ◌+◌, ◌*◌, ◌/◌, ◌≤◌, min, ◌≡◌, ◌⊎◌, Option, Some, None, List, ◌++◌, length, drop}
use Rattle.latest.specs.Pile.{longest_pile, latest_of}

-- a good line has 18 bytes or more, and has one row
unfoldable pub rows_for : ℕ → ℕ
rows_for n = min n longest_pile / 18

-- a line prints at most 15 bytes for each of its own
unfoldable pub room_for : ℕ → ℕ
room_for n = 15 * min n longest_pile + 9

-- the rows that seven columns have
abbrev pub rows_in : ℕ → ℕ → ℕ → ℕ → ℕ → ℕ → ℕ → ℕ
rows_in h l s b o w v = min (min (min h l) (min s b)) (min (min o w) v)

-- what the pile asks for
pub record Enough (pile : List ℕ) (rows room : ℕ) : Type 0 where
  pub work : rows_for (length pile) ≤ rows
  pub space : room_for (length pile) ≤ room

-- with enough of both: all that the pile prints, at the start of the array, and nothing past it; else nothing
abbrev pub Answered : List ℕ → ℕ → List ℕ → Option ℕ → List ℕ → Type 0
Answered pile rows before past after =
    (Enough pile rows (length before) × (past ≡ Some (length (latest_of pile))) × (after ≡ latest_of pile ++ drop (length (latest_of pile)) before))
    ⊎ ((Enough pile rows (length before) → ⊥) × (past ≡ None) × (after ≡ before))
