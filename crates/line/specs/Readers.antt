-- What each line is read as: its record; malformed; or refused, with the first number in the line's order. The form of the whole line comes before what any of
-- its fields says.
use Rattle.std.specs.Prelude.{ℕ, Result, Ok, Err, Some, None, Bool, ◌&&◌, List, length, ℤ, ◌==◌, slice_index}
use Rattle.std.proofs.Math.Option.{Option, none, some}
use Rattle.refusal.specs.Order.{pick}
use Rattle.chain.specs.Faults.{point_fault, step_fault}
use Rattle.angle.specs.Ranges.{origin_fault, angles_fault}
use Rattle.chain.specs.declared.Point.{Point}
use Rattle.chain.specs.declared.Step.{Step}
use Rattle.angle.specs.declared.OriginNumbers.{OriginNumbers}
use Rattle.line.specs.declared.Geodetic.{Geodetic}
use Rattle.line.specs.declared.GridHeader.{GridHeader}
use Rattle.line.specs.declared.VelocityParts.{VelocityParts}
use Rattle.line.specs.Answers.{Fault, Line, Node, Good, Malformed, Refused, PlacedLine}
use Rattle.line.specs.Bytes.{minus, line_feed}
use Rattle.line.specs.Fields.{said}
use Rattle.line.specs.Forms.{point_form, step_form, origin_form, geodetic_form, edition_form, grid_form, node_form}
use Rattle.line.specs.Lines.{line_end, line_at}
use Rattle.line.specs.Malformed.{point_shape, step_shape, origin_shape, geodetic_shape, edition_shape, grid_shape, node_shape, unknown_shape, fault_of}
use Rattle.line.specs.Reading.{capped_z, capped_header, capped_parts}
use Rattle.line.specs.Text.{label_text}

-- a line whose first letter its program does not know
abbrev pub strange_fault : List ℕ → Fault
strange_fault line = fault_of unknown_shape line

-- a record by its own fault, which is 0 where there is none
abbrev pub judged : {A R : Type 0} → (A → ℕ) → (A → R) → (ℕ → R) → A → R
judged wrong good refused a = pick (wrong a == 0) (good a) (refused (wrong a))

-- a line of bad form, and a line of good form
abbrev pub read_as : {A R : Type 0} → (A → ℕ) → (A → R) → (ℕ → R) → R → Option A → R
read_as wrong good refused malformed none = malformed
read_as wrong good refused malformed (some a) = judged wrong good refused a

-- under a profile: 18 to 22, 2, 3, 25
unfoldable pub read_point : ℤ → List ℕ → Line Point
read_point y line = read_as (point_fault y) Good Refused (Malformed (fault_of point_shape line)) (said point_form line)

-- where the datum of a point begins in its line: after the label, as it is written
abbrev pub place_of : Option Point → ℕ
place_of none = 0
place_of (some p) = length (label_text p.label)

unfoldable pub datum_place : List ℕ → ℕ
datum_place line = place_of (said point_form line)

-- the line of an input that begins at a place, as a point line
unfoldable pub placed_point : ℤ → List ℕ → ℕ → PlacedLine
placed_point y input from = record { line = read_point y (line_at input from); place = datum_place (line_at input from); end = line_end input from }

-- a line by itself, as a point line: where it ends is its length
unfoldable pub one_point : ℤ → List ℕ → PlacedLine
one_point y line = record { line = read_point y line; place = datum_place line; end = length line }

-- under a profile: 18 to 22, 2, 3, 25, 4
unfoldable pub read_step : ℤ → List ℕ → Line Step
read_step y line = read_as (step_fault y) Good Refused (Malformed (fault_of step_shape line)) (said step_form line)

-- 18 to 22, 2, 12
unfoldable pub read_origin : List ℕ → Line OriginNumbers
read_origin line = read_as origin_fault Good Refused (Malformed (fault_of origin_shape line)) (said origin_form line)

abbrev pub geodetic_fault : Geodetic → ℕ
geodetic_fault g = angles_fault g.latitude g.longitude

-- 18 to 22, 12
unfoldable pub read_geodetic : List ℕ → Line Geodetic
read_geodetic line = read_as geodetic_fault Good Refused (Malformed (fault_of geodetic_shape line)) (said geodetic_form line)

-- 18 to 22. What the year is comes after where the line stands, so it is not examined here; it is carried up to the cap, which is no edition's year
abbrev pub edition_as : Result ℤ Fault → Option ℤ → Result ℤ Fault
edition_as malformed none = malformed
edition_as malformed (some year) = Ok (capped_z year)

unfoldable pub read_edition : List ℕ → Result ℤ Fault
read_edition line = edition_as (Err (fault_of edition_shape line)) (said edition_form line)

-- 18, 19, 20, 22. The ranges are the grid's; numbers are carried up to the cap, which no range reaches
abbrev pub grid_as : Result GridHeader Fault → Option GridHeader → Result GridHeader Fault
grid_as malformed none = malformed
grid_as malformed (some header) = Ok (capped_header header)

unfoldable pub read_grid_header : List ℕ → Result GridHeader Fault
read_grid_header line = grid_as (Err (fault_of grid_shape line)) (said grid_form line)

-- a node without a value: a hyphen and the line feed
unfoldable pub hyphen_line : List ℕ → Bool
hyphen_line line = length line == 2 && slice_index line 0 == minus && slice_index line 1 == line_feed

-- three numbers, carried likewise: 18, 20, 22
abbrev pub parts_as : Node → Option VelocityParts → Node
parts_as malformed none = malformed
parts_as malformed (some parts) = Ok (Some (capped_parts parts))

unfoldable pub numbers_node : List ℕ → Node
numbers_node line = parts_as (Err (fault_of node_shape line)) (said node_form line)

unfoldable pub read_node : List ℕ → Node
unfolding numbers_node
read_node line = pick (hyphen_line line) (Ok None) (numbers_node line)
