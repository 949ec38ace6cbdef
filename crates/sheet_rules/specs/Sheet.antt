-- What a sheet prints. A sheet is an edition line or none, then step lines, then point lines; each good point prints its line after the chain, each refused line
-- prints R.
use Rattle.std.specs.Prelude.{ℕ, ◌+◌, Bool, true, false, not, ◌||◌, List, [], ◌∷◌, ◌++◌, eqb, ℤ, Result, Ok, Err}
use Rattle.refusal.specs.Numbers as refusal
use Rattle.line.specs.Answers.{Fault, Line, Good, Malformed, Refused}
use Rattle.refusal.specs.Order.{pick, Test, first, ◌gives◌, unless}
use Rattle.ranges.specs.Ranges.{profile_range}
use Rattle.chain.specs.declared.Step.{Step}
use Rattle.chain.specs.declared.Point.{Point}
use Rattle.chain.specs.Faults.{latest}
use Rattle.chain.specs.Convert.{Answer, more_tests, forward_of}
use Rattle.chain.specs.Prepared.{chain_of}
use Rattle.line.specs.Bytes.{letter_p, letter_s, letter_e}
use Rattle.line.specs.Readers.{strange_fault, read_point, read_step, read_edition}
use Rattle.line.specs.Text.{point_text, refusal_text}
use Rattle.listing.specs.Fold.{Rules, printed, by_letters}
use Rattle.sheet_rules.specs.declared.Reply.{Reply}
use Rattle.sheet_rules.specs.declared.Reply.TheVariants as reply

-- what has been read so far: the number of the line to come; the profile that the chain is under; the steps accepted; whether a line beginning with S or E was
-- refused; whether a point line of good form was read, which closes the chain
pub record Sheet : Type 0 where
  pub line : ℕ
  pub profile : ℤ
  pub steps : List Step
  pub refused : Bool
  pub closed : Bool

abbrev pub fresh : Sheet
fresh = record { line = 1; profile = latest; steps = []; refused = false; closed = false }

-- the sheet after a line that changes nothing else
abbrev pub passed : Sheet → Sheet
passed s = record { line = s.line + 1; profile = s.profile; steps = s.steps; refused = s.refused; closed = s.closed }

-- ---- the reply to a line, and how it prints
abbrev pub reply_text : Reply → List ℕ
reply_text reply.Nothing = []
reply_text (reply.Point p) = point_text p
reply_text (reply.Refused line number place) = refusal_text line number place

-- refused for what it says or where it stands: no place in the line
abbrev pub refuse : Sheet → ℕ → Reply
refuse s number = reply.Refused s.line number 0

-- refused for its form, with the place in the line
abbrev pub malformed : Sheet → Fault → Reply
malformed s f = reply.Refused s.line f.number f.place

-- ---- a step line: its form, 2, 3, 25, 4 by itself, then 8, 7, 5, 6
abbrev pub step_line_tests : Sheet → Step → List Test
step_line_tests s step =
    (s.refused gives refusal.earlier) ∷ (s.closed gives refusal.misplaced) ∷ more_tests s.steps step

-- an accepted step prints nothing
abbrev pub step_reply : Sheet → Line Step → Reply
step_reply s (Malformed f) = malformed s f
step_reply s (Refused n) = refuse s n
step_reply s (Good step) = unless (first (step_line_tests s step)) (refuse s) reply.Nothing

abbrev pub with_step : Sheet → Step → Sheet
with_step s step = record { line = s.line + 1; profile = s.profile; steps = s.steps ++ (step ∷ []); refused = s.refused; closed = s.closed }

-- after a refused line that begins with S, or with E, which counts as one
abbrev pub without_step : Sheet → Sheet
without_step s = record { line = s.line + 1; profile = s.profile; steps = s.steps; refused = true; closed = s.closed }

abbrev pub after_step : Sheet → Line Step → Sheet
after_step s (Malformed f) = without_step s
after_step s (Refused n) = without_step s
after_step s (Good step) = unless (first (step_line_tests s step)) (λ _. without_step s) (with_step s step)

-- ---- a point line: its form, 2, 3, 25 by itself, then 8, then 9, 10, 11 of the conversion
abbrev pub conversion_reply : Sheet → Answer → Reply
conversion_reply s (Ok p) = reply.Point p
conversion_reply s (Err n) = refuse s n

abbrev pub point_reply : Sheet → Line Point → Reply
point_reply s (Malformed f) = malformed s f
point_reply s (Refused n) = refuse s n
point_reply s (Good p) = pick s.refused (refuse s refusal.earlier) (conversion_reply s (forward_of (chain_of s.profile s.steps) p))

-- a point line of good form closes the chain, whatever it says
abbrev pub closes : Line Point → Bool
closes (Malformed f) = false
closes (Refused n) = true
closes (Good p) = true

abbrev pub after_point : Sheet → Line Point → Sheet
after_point s l = record { line = s.line + 1; profile = s.profile; steps = s.steps; refused = s.refused; closed = s.closed || closes l }

-- ---- an edition line: its form, then 7 where it is not the first line, then 2 for a year that is no profile
abbrev pub edition_tests : Sheet → ℤ → List Test
edition_tests s year = (not (eqb s.line 1) gives refusal.misplaced) ∷ (not (profile_range year) gives refusal.range) ∷ []

-- an accepted one prints nothing, and the chain is under its year from here on
abbrev pub edition_reply : Sheet → Result ℤ Fault → Reply
edition_reply s (Err f) = malformed s f
edition_reply s (Ok year) = unless (first (edition_tests s year)) (refuse s) reply.Nothing

abbrev pub with_edition : Sheet → ℤ → Sheet
with_edition s year = record { line = s.line + 1; profile = year; steps = s.steps; refused = s.refused; closed = s.closed }

abbrev pub after_edition : Sheet → Result ℤ Fault → Sheet
after_edition s (Err f) = without_step s
after_edition s (Ok year) = unless (first (edition_tests s year)) (λ _. without_step s) (with_edition s year)

-- ---- one line, by its first byte
unfoldable pub reply_of : Sheet → List ℕ → Reply
reply_of s line =
    by_letters letter_s letter_p letter_e line (step_reply s (read_step s.profile line)) (point_reply s (read_point s.profile line)) (edition_reply s (read_edition line)) (malformed s (strange_fault line))

unfoldable pub next_of : Sheet → List ℕ → Sheet
next_of s line =
    by_letters letter_s letter_p letter_e line (after_step s (read_step s.profile line)) (after_point s (read_point s.profile line)) (after_edition s (read_edition line)) (passed s)

abbrev pub rules : Rules Sheet Reply
rules = record { reply = reply_of; next = next_of; text = reply_text }

-- the whole sheet
unfoldable pub sheet_of : List ℕ → List ℕ
sheet_of input = printed rules fresh input
