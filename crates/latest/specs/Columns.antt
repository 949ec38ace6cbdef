-- The good lines as columns of numbers, one row for each: the two words of its id, its issue, and where in the pile it begins.
use Rattle.std.specs.Prelude.{ℕ, suc, ◌*◌, ◌≤◌, ◌<◌, ◌≡◌, Bool, List, [], ◌∷◌, ◌++◌, length, get_or, take}
use Rattle.chain.specs.Faults.{latest}
use Rattle.chain.specs.declared.Point.{Point}
use Rattle.line.specs.Answers.{Line}
use Rattle.line.specs.Answers as P
use Rattle.line.specs.Lines.{lines, line_at}
use Rattle.line.specs.Readers.{read_point}
use Rattle.latest.specs.Pile.{Row, goods, any_bad, verdict, line_text}

unfoldable pub rows_of : List ℕ → List ℕ → List ℕ → List ℕ → List ℕ → List Row
rows_of x [] l s b = []
rows_of x (a ∷ h) [] s b = []
rows_of x (a ∷ h) (c ∷ l) [] b = []
rows_of x (a ∷ h) (c ∷ l) (d ∷ s) [] = []
rows_of x (a ∷ h) (c ∷ l) (d ∷ s) (e ∷ b) = record { high = a; low = c; issue = d; text = line_at x e } ∷ rows_of x h l s b

unfoldable pub verdicts_from : List Row → ℕ → List Row → List ℕ
verdicts_from rows i [] = []
verdicts_from rows i (r ∷ rs) = verdict rows i r ∷ verdicts_from rows (suc i) rs

-- the verdicts of all rows, in their order
unfoldable pub verdicts_of : List Row → List ℕ
verdicts_of rows = verdicts_from rows 0 rows

-- the line of a row
abbrev pub text_in : List ℕ → List ℕ → ℕ → List ℕ
text_in x b i = line_at x (get_or b i 0)

-- the first rows of longer columns are the good lines of the pile, and `stop` says whether a line is bad
pub record Gathered (x h l s b : List ℕ) (count : ℕ) (stop : Bool) : Type 0 where
  pub rows : rows_of x (take count h) (take count l) (take count s) (take count b) ≡ goods (lines x)
  pub bad : stop ≡ any_bad (lines x)
  pub few : count * 18 ≤ length x
  pub inside : (i : ℕ) → i < count → get_or b i 0 < length x

-- ---- how the code prints: the lines from number n on, with the verdicts v from row r on
abbrev pub row_after : Line Point → ℕ → ℕ
row_after (P.Good p) r = suc r
row_after (P.Malformed f) r = r
row_after (P.Refused n) r = r

unfoldable pub prints_from : Bool → List ℕ → ℕ → ℕ → List (List ℕ) → List ℕ
prints_from stop v n r [] = []
prints_from stop v n r (l ∷ ls) = line_text stop n (get_or v r 0) l (read_point latest l) ++ prints_from stop v (suc n) (row_after (read_point latest l) r) ls
