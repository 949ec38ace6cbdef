-- How the code carries a sheet: a small state by value, and the chain of the accepted steps prepared, in numbers that are lent beside it.
use Rattle.std.specs.Prelude.{◌≡◌, Bool, List, ℕ, ◌+◌, ◌<◌, ℤ, length}
use Rattle.chain.specs.Prepared as prepared
use Rattle.sheet_rules.specs.declared.State.{State}
use Rattle.sheet_rules.specs.declared.Reply.{Reply}
use Rattle.sheet_rules.specs.declared.Reply.TheVariants as reply
use Rattle.line.specs.Text.{Wrote}
use Rattle.sheet_rules.specs.declared.Decided.{Decided}
use Rattle.sheet_rules.specs.declared.Printed.{Printed}
use Rattle.sheet_rules.specs.Sheet.{Sheet, reply_text}

-- the state and the numbers hold the sheet
pub record Holds (st : State) (numbers : List ℤ) (s : Sheet) : Type 0 where
  pub line : st.line ≡ s.line
  pub profile : st.profile ≡ s.profile
  pub refused : st.refused ≡ s.refused
  pub closed : st.closed ≡ s.closed
  pub chain : prepared.Holds st.profile numbers s.steps
  -- no line gave more than one step: on the first there is none yet, so that an edition has none to judge
  pub counted : length s.steps < s.line

-- what was decided on a line: the reply to it, and the sheet after it held
pub record Gave (answer : Reply) (next : Sheet) (numbers : List ℤ) (r : Decided) : Type 0 where
  pub reply : r.reply ≡ answer
  pub holds : Holds r.state numbers next

-- the state k lines on, of which nothing else is changed
unfoldable pub passed_in : State → ℕ → State
passed_in st k = record { line = st.line + k; profile = st.profile; refused = st.refused; closed = st.closed }

-- what is decided on a line, once the line is counted
abbrev pub counted_in : Decided → Decided
counted_in d = record { reply = d.reply; state = passed_in d.state 1 }

-- the state after a line that adds no step, but for the line's number
abbrev pub after_in : State → Bool → Bool → State
after_in st refused closed = record { line = st.line; profile = st.profile; refused = refused; closed = closed }

-- what is decided on a refused line, where the state after it is this one, but for the line's number
abbrev pub refused_in : State → ℕ → ℕ → Decided
refused_in st number place = record { reply = reply.Refused st.line number place; state = st }

-- ---- a line decided and printed at once
-- what was decided is printed, and held
abbrev pub Shows : Decided → List ℕ → ℕ → List ℕ → Printed → Type 0
Shows d before at after r = Wrote before at (reply_text d.reply) after r.at × (r.state ≡ d.state)

-- the reply is printed, and the sheet after it held
pub record Shown (answer : Reply) (next : Sheet) (numbers : List ℤ) (before : List ℕ) (at : ℕ) (after : List ℕ) (r : Printed) : Type 0 where
  pub wrote : Wrote before at (reply_text answer) after r.at
  pub holds : Holds r.state numbers next

-- what is printed for a line, once the line is counted
abbrev pub counted_too : Printed → Printed
counted_too r = record { at = r.at; state = passed_in r.state 1 }
