-- Which point lines of a pile are handed out: of each id the line of its highest issue. Said over all lines at once; a line is read as the later of two reads it.
use Rattle.std.specs.Prelude.{ℕ, suc, Bool, true, false, cond, not, ◌&&◌, ◌||◌, List, [], ◌∷◌, ◌++◌, eqb, ltb, nat_abs, length, take}
use Rattle.refusal.specs.Numbers as refusal
use Rattle.refusal.specs.Order.{pick}
use Rattle.chain.specs.declared.Point.{Point}
use Rattle.chain.specs.Faults.{latest}
use Rattle.line.specs.Answers.{Line}
use Rattle.line.specs.Answers as P
use Rattle.line.specs.Later.{same_bytes}
use Rattle.line.specs.Lines.{lines}
use Rattle.line.specs.Readers.{read_point}
use Rattle.line.specs.Text.{refusal_text}

-- ---- the good lines: their id, of two words, their issue, which is 1 or more, and their bytes
pub record Row : Type 0 where
  pub high : ℕ
  pub low : ℕ
  pub issue : ℕ
  pub text : List ℕ

abbrev pub row_of : List ℕ → Point → Row
row_of line p = record { high = p.label.id.high; low = p.label.id.low; issue = nat_abs p.label.issue; text = line }

-- a line in front of the good ones, if it is good
abbrev pub if_good : List ℕ → Line Point → List Row → List Row
if_good line (P.Good p) rows = row_of line p ∷ rows
if_good line (P.Malformed f) rows = rows
if_good line (P.Refused n) rows = rows

unfoldable pub goods : List (List ℕ) → List Row
goods [] = []
goods (l ∷ ls) = if_good l (read_point latest l) (goods ls)

-- ---- a line that is refused with 18 to 22, 2 or 3: any of them stops the hand-out
abbrev pub is_bad : Line Point → Bool
is_bad (P.Good p) = false
is_bad (P.Malformed f) = true
is_bad (P.Refused n) = true

unfoldable pub any_bad : List (List ℕ) → Bool
any_bad [] = false
any_bad (l ∷ ls) = is_bad (read_point latest l) || any_bad ls

-- ---- one good line and another
abbrev pub same_id : Row → Row → Bool
same_id r q = eqb r.high q.high && eqb r.low q.low

-- q bears r's id and a higher issue, by number
unfoldable pub higher : Row → Row → Bool
higher r q = same_id r q && ltb r.issue q.issue

-- q bears r's id and issue
abbrev pub same_top : Row → Row → Bool
same_top r q = same_id r q && eqb r.issue q.issue

-- and other bytes
unfoldable pub differs : Row → Row → Bool
differs r q = same_top r q && not (same_bytes r.text q.text)

-- and the same bytes
unfoldable pub equal : Row → Row → Bool
equal r q = same_top r q && same_bytes r.text q.text

unfoldable pub any : (Row → Bool) → List Row → Bool
any p [] = false
any p (x ∷ xs) = p x || any p xs

-- ---- a good line among all good lines
-- 0 where a higher issue of its id is there; 17 where other bytes of its id and issue are there; else 1
unfoldable pub standing : List Row → Row → ℕ
standing rows r = cond (any (higher r) rows) 0 (cond (any (differs r) rows) refusal.same 1)

-- where it stands alone the first of its copies is handed out, 1; i good lines are before it
unfoldable pub verdict : List Row → ℕ → Row → ℕ
verdict rows i r = cond (eqb (standing rows r) 1) (cond (any (equal r) (take i rows)) 0 1) (standing rows r)

-- ---- what a line prints
-- a good line with its verdict, under its number: its R line, itself where no line is bad, or nothing
abbrev pub good_text : Bool → ℕ → ℕ → List ℕ → List ℕ
good_text stop number v line = pick (eqb v refusal.same) (refusal_text number refusal.same 0) (pick (eqb v 1) (pick stop [] line) [])

abbrev pub line_text : Bool → ℕ → ℕ → List ℕ → Line Point → List ℕ
line_text stop number v line (P.Malformed f) = refusal_text number f.number f.place
line_text stop number v line (P.Refused n) = refusal_text number n 0
line_text stop number v line (P.Good p) = good_text stop number v line

-- the verdict of a good line; nobody asks for that of another
abbrev pub verdict_in : List (List ℕ) → ℕ → List ℕ → Line Point → ℕ
verdict_in ls i line (P.Good p) = verdict (goods ls) (length (goods (take i ls))) (row_of line p)
verdict_in ls i line (P.Malformed f) = 0
verdict_in ls i line (P.Refused n) = 0

-- the line after the first i of all lines ls
unfoldable pub reply_of : List (List ℕ) → ℕ → List ℕ → List ℕ
reply_of ls i line = line_text (any_bad ls) (suc i) (verdict_in ls i line (read_point latest line)) line (read_point latest line)

unfoldable pub replies_from : List (List ℕ) → ℕ → List (List ℕ) → List ℕ
replies_from ls i [] = []
replies_from ls i (l ∷ rest) = reply_of ls i l ++ replies_from ls (suc i) rest

-- ---- a whole pile, of at most so many bytes; more prints only R, 0, 15, 0
abbrev pub longest_pile : ℕ
longest_pile = 2097152

unfoldable pub latest_of : List ℕ → List ℕ
latest_of pile = pick (ltb longest_pile (length pile)) (refusal_text 0 refusal.long 0) (replies_from (lines pile) 0 (lines pile))
