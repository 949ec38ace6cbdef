-- What is promised of a whole sheet in fragments.
use Rattle.std.specs.Prelude.{ℕ, suc, ◌-◌, ◌≤◌, ◌≡◌, true, List, ◌++◌, length, take, replicate}
use Rattle.refusal.specs.Numbers as refusal
use Rattle.chain.specs.declared.Step.{Step}
use Rattle.chain.specs.declared.Chain.{Chain}
use Rattle.chain.specs.Faults.{latest}
use Rattle.line.specs.Lines.{lines}
use Rattle.listing.specs.Fold.{longest_input}
use Rattle.sheet_rules.specs.declared.Reply.{Reply}
use Rattle.sheet_rules.specs.declared.Reply.TheVariants as reply
use Rattle.sheet_rules.specs.Sheet as sheet
use Rattle.sheet_rules.specs.OneLine.{most_lines, standing_at}
use Rattle.sheet_stream.specs.declared.Stream.{Stream}
use Rattle.sheet_stream.specs.Fragments.{between, fresh, sound}
use Rattle.sheet_stream.specs.Calls.{SoFar, so_far, AnyCalls, deliver, joined, finished, rules_run, rules_last, texts}

-- ---- one run of the sheet's rules over the lines of a text
-- the answers to the first 1,000,000 lines, each with its line's number where it is refused; then 28 for each further line
abbrev pub past_limit : Reply
past_limit = reply.Refused (suc most_lines) refusal.limit 0

unfoldable pub answers_to : List (List ℕ) → List Reply
answers_to ls = rules_run sheet.fresh (take most_lines ls) ++ replicate (length ls - most_lines) past_limit

-- the whole closing state: where the rules leave the sheet after those lines, no line open, finished. What stands past its steps is as it was
abbrev pub no_steps : List Step → Chain
no_steps spare = record { steps = spare; length = 0; profile = latest }

unfoldable pub closing_of : List Step → List (List ℕ) → Stream
closing_of spare ls = between (standing_at (no_steps spare) (rules_last sheet.fresh (take most_lines ls))) true

abbrev pub one_run : List Step → List ℕ → SoFar
one_run spare text = so_far (answers_to (lines text)) (closing_of spare (lines text))

-- ---- THE REQUEST: from a fresh state the answers, the line numbers and the whole closing state are those of one run of the rules over the sheet's lines, so they
-- don't depend on where it was cut
pub record OverTheLink : Type 0 where
  -- a caller who hands on each fragment until all of it is taken, whatever the fragments
  pub cut : (spare : List Step) (fs : List (List ℕ)) → finished (deliver (fresh spare) fs) ≡ one_run spare (joined fs)
  -- any caller at all, who hands on each time whatever bytes he likes: the sheet is what his calls took
  pub called : (spare : List Step) (text : List ℕ) (rs : List Reply) (t : Stream) → AnyCalls (fresh spare) text rs t → finished (so_far rs t) ≡ one_run spare text
  -- and a sheet that the sheet program reads prints what the program prints
  pub printed : (spare : List Step) (fs : List (List ℕ)) → length (joined fs) ≤ longest_input → texts (finished (deliver (fresh spare) fs)).replies ≡ sheet.sheet_of (joined fs)

-- from any sound state, also one that no sheet makes: two lists of fragments with one text give the same answers and the same state, whole
abbrev pub CutsDontMatter : Type 0
CutsDontMatter = (s : Stream) (fs gs : List (List ℕ)) → sound s ≡ true → joined fs ≡ joined gs → deliver s fs ≡ deliver s gs
