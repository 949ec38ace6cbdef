-- What is promised of a pile: each line prints itself, an R line or nothing; of each id one line or none; another order hands out the same.
use Rattle.std.specs.Prelude.{ℕ, suc, ◌+◌, ◌≤◌, ◌<◌, ◌≡◌, false, cond, List, [], ◌∷◌, eqb, length, get_or}
use Rattle.chain.specs.declared.Point.{Point}
use Rattle.chain.specs.Faults.{latest}
use Rattle.line.specs.Answers as P
use Rattle.line.specs.Readers.{read_point}
use Rattle.line.specs.Text.{refusal_text}
use Rattle.latest.specs.Pile.{Row, goods, any_bad, equal, verdict, verdict_in, reply_of}
use Rattle.latest.specs.Columns.{verdicts_of}

abbrev pub no_row : Row
no_row = record { high = 0; low = 0; issue = 0; text = [] }

-- two good lines bear one id
pub record Alike (r q : Row) : Type 0 where
  pub high : r.high ≡ q.high
  pub low : r.low ≡ q.low

-- ---- what the line l after the first i of all lines prints
pub data Told (ls : List (List ℕ)) (i : ℕ) (l : List ℕ) : Type 0 where
  silent : reply_of ls i l ≡ [] → Told ls i l
  refused : (number place : ℕ) → reply_of ls i l ≡ refusal_text (suc i) number place → Told ls i l
  itself : (p : Point) → read_point latest l ≡ P.Good p → any_bad ls ≡ false → verdict_in ls i l (P.Good p) ≡ 1 → reply_of ls i l ≡ l → Told ls i l

-- ---- of the id of r: one line is handed out, no other, and none is refused; or two or more are refused, all of the highest issue, and none is handed out
pub data Outcome (rows : List Row) (r : Row) : Type 0 where
  handed_out : (k : ℕ) → k < length rows → Alike r (get_or rows k no_row) → get_or (verdicts_of rows) k 0 ≡ 1
      → ((j : ℕ) → j < length rows → Alike r (get_or rows j no_row) → get_or (verdicts_of rows) j 0 ≡ 1 → j ≡ k)
      → ((j : ℕ) → j < length rows → Alike r (get_or rows j no_row) → get_or (verdicts_of rows) j 0 ≡ 17 → ⊥) → Outcome rows r
  refused : (k m : ℕ) → k < length rows → m < length rows → (k ≡ m → ⊥) → Alike r (get_or rows k no_row) → Alike r (get_or rows m no_row)
      → get_or (verdicts_of rows) k 0 ≡ 17 → get_or (verdicts_of rows) m 0 ≡ 17
      → ((j : ℕ) → j < length rows → Alike r (get_or rows j no_row) → ((n : ℕ) → n < length rows → Alike r (get_or rows n no_row) → (get_or rows n no_row).issue ≤ (get_or rows j no_row).issue) → get_or (verdicts_of rows) j 0 ≡ 17)
      → ((j : ℕ) → j < length rows → Alike r (get_or rows j no_row) → get_or (verdicts_of rows) j 0 ≡ 1 → ⊥) → Outcome rows r

-- ---- one list is the other in another order
pub data Perm {A : Type 0} : List A → List A → Type 0 where
  done : Perm [] []
  keep : {a b : List A} (r : A) → Perm a b → Perm (r ∷ a) (r ∷ b)
  swap : {a : List A} (r q : A) → Perm (r ∷ q ∷ a) (q ∷ r ∷ a)
  then : {a b c : List A} → Perm a b → Perm b c → Perm a c

-- the rows that are handed out, and those that are refused, in their order
unfoldable pub handed_from : List Row → ℕ → List Row → List Row
handed_from rows i [] = []
handed_from rows i (q ∷ qs) = cond (eqb (verdict rows i q) 1) (q ∷ handed_from rows (suc i) qs) (handed_from rows (suc i) qs)

unfoldable pub handed : List Row → List Row
handed rows = handed_from rows 0 rows

unfoldable pub refused_from : List Row → ℕ → List Row → List Row
refused_from rows i [] = []
refused_from rows i (q ∷ qs) = cond (eqb (verdict rows i q) 17) (q ∷ refused_from rows (suc i) qs) (refused_from rows (suc i) qs)

unfoldable pub refused_rows : List Row → List Row
refused_rows rows = refused_from rows 0 rows

-- how often a row is among them
unfoldable pub count_row : Row → List Row → ℕ
count_row r [] = 0
count_row r (q ∷ qs) = cond (equal r q) 1 0 + count_row r qs

-- both orders hand out every line as often, refuse it as often, and stop or do not
pub record Same (a b : List (List ℕ)) : Type 0 where
  pub handed : (r : Row) → count_row r (handed (goods a)) ≡ count_row r (handed (goods b))
  pub refused : (r : Row) → count_row r (refused_rows (goods a)) ≡ count_row r (refused_rows (goods b))
  pub stops : any_bad a ≡ any_bad b

pub record Promises : Type 0 where
  -- every line that is printed is a line of the pile, byte for byte
  pub told : (ls : List (List ℕ)) (i : ℕ) (l : List ℕ) → Told ls i l
  -- no good line of its id has a higher issue
  pub none-higher : (ls : List (List ℕ)) (i j : ℕ) → i < length (goods ls) → j < length (goods ls) → get_or (verdicts_of (goods ls)) i 0 ≡ 1
      → Alike (get_or (goods ls) i no_row) (get_or (goods ls) j no_row) → (get_or (goods ls) j no_row).issue ≤ (get_or (goods ls) i no_row).issue
  -- every id of a good line
  pub one-or-refused : (ls : List (List ℕ)) (i : ℕ) → i < length (goods ls) → Outcome (goods ls) (get_or (goods ls) i no_row)
  -- another order of the lines
  pub another-order : {a b : List (List ℕ)} → Perm a b → Same a b
