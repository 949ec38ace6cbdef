-- What a line is read as, with its refusals by their numbers; and what the code's readers answer, said by the same numbers.
use Rattle.std.specs.Prelude.{◌≡◌, ℕ, Option, Result, Ok, Err}
use Rattle.refusal.specs.Refusals.{number}
use Rattle.refusal.specs.declared.Refusal.{Refusal}
use Rattle.chain.specs.declared.Point.{Point}
use Rattle.line.specs.declared.Fault as declared
use Rattle.line.specs.declared.VelocityParts.{VelocityParts}
use Rattle.line.specs.declared.Unread.{Unread}
use Rattle.line.specs.declared.Unread.TheVariants as unread
use Rattle.line.specs.declared.PlacedLine as placed

-- what is wrong with the form of a line: a number of the refusal table, and the byte in the line, from 0, where the first offending field begins
pub record Fault : Type 0 where
  pub number : ℕ
  pub place : ℕ

-- a line as it is read: a good record; malformed; or refused with a number, where the form is good and what the fields say is not
pub data Line (A : Type 0) : Type 0 where
  Good : A → Line A
  Malformed : Fault → Line A
  Refused : ℕ → Line A

-- a line of an input as a point line; the place in it where the datum begins; and the place in the input where it ends
pub record PlacedLine : Type 0 where
  pub line : Line Point
  pub place : ℕ
  pub end : ℕ

-- a node of a velocity grid: its parts or no value, or malformed
abbrev pub Node : Type 0
Node = Result (Option VelocityParts) Fault

-- ---- the code's answers, by their numbers
abbrev pub fault_told : declared.Fault → Fault
fault_told f = record { number = number f.refusal; place = f.place }

-- a fault, or two zeros for none
abbrev pub form_fault_told : Result Unit declared.Fault → Fault
form_fault_told (Ok x) = record { number = 0; place = 0 }
form_fault_told (Err f) = fault_told f

-- of a reader that examines nothing but the form
abbrev pub form_told : {A : Type 0} → Result A declared.Fault → Result A Fault
form_told (Ok a) = Ok a
form_told (Err f) = Err (fault_told f)

abbrev pub line_told : {A : Type 0} → Result A Unread → Line A
line_told (Ok a) = Good a
line_told (Err (unread.Malformed f)) = Malformed (fault_told f)
line_told (Err (unread.Refused refusal)) = Refused (number refusal)

abbrev pub placed_told : placed.PlacedLine → PlacedLine
placed_told r = record { line = line_told r.line; place = r.place; end = r.end }

-- what a conversion to the answer of a reader gives
abbrev pub gives_malformed : declared.Fault → Unread → Type 0
gives_malformed f u = u ≡ unread.Malformed f

abbrev pub gives_refused : Refusal → Unread → Type 0
gives_refused refusal u = u ≡ unread.Refused refusal
