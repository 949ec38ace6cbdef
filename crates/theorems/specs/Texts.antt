-- What is promised of lines and of whole texts, beside the definitions: what is written is read back, how long a written line can be, and the room for a text.
use Rattle.std.specs.Prelude.{◌≡◌, List, ℕ, suc, ◌+◌, ◌≤◌, ◌<◌, ◌^◌, ℤ, nat_abs, length}
use Rattle.std.proofs.Math.Option.{some}
use Rattle.chain.specs.declared.Id.{Id}
use Rattle.chain.specs.declared.Point.{Point}
use Rattle.chain.specs.Faults.{point_fault}
use Rattle.line.specs.Answers.{Good}
use Rattle.line.specs.Number.{number_of}
use Rattle.line.specs.Name.{name_of}
use Rattle.line.specs.Readers.{read_point}
use Rattle.line.specs.Text.{integer, point_text, projected_text, refusal_text}
use Rattle.listing.specs.Fold.{room_for}
use Rattle.sheet_rules.specs.Sheet.{sheet_of}
use Rattle.plan_rules.specs.Plan.{plan_of}

-- ---- read back
-- a number as it is written is in plain form, and says that number
abbrev pub NumberBack : Type 0
NumberBack = (z : ℤ) → number_of (integer z) ≡ some z

-- a point with no fault, and an id that a name spells, is read from its own line
abbrev pub PointBack : Type 0
PointBack = (y : ℤ) (p : Point) (name : List ℕ) → name_of name ≡ some p.label.id → point_fault y p ≡ 0 → read_point y (point_text p) ≡ Good p

-- and a line that is read as a point is, byte for byte, the line that is written for it: no point has two lines
abbrev pub PointText : Type 0
PointText = (y : ℤ) (text : List ℕ) (p : Point) → read_point y text ≡ Good p → text ≡ point_text p

-- ---- how long a written line is, its line feed counted
pub record Lengths : Type 0 where
  pub point : (y : ℤ) (p : Point) → point_fault y p ≡ 0 → length (point_text p) ≤ 80
  pub projected : (id : Id) (e n : ℤ) → nat_abs e < 10 ^ 18 → nat_abs n < 10 ^ 18 → length (projected_text id e n) ≤ 60
  pub refusal : (line number place k : ℕ) → line < 100000 → number < 100 → place < 10 ^ suc k → length (refusal_text line number place) ≤ 12 + suc k

-- ---- the room for a text: `room_for` the input's length is enough
abbrev pub SheetFits : Type 0
SheetFits = (input : List ℕ) → length (sheet_of input) ≤ room_for (length input)

abbrev pub PlanFits : Type 0
PlanFits = (input : List ℕ) → length (plan_of input) ≤ room_for (length input)

pub record Texts : Type 0 where
  pub number : NumberBack
  pub point : PointBack
  pub text : PointText
  pub lengths : Lengths
  pub sheet : SheetFits
  pub plan : PlanFits
