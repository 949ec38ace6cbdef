-- Worked cases of what is wrong with a line: each of the five numbers, and each two that stand side by side in the order, on one line. In a text a bar
-- stands for a tab, as in the papers.
use Rattle.std.specs.Prelude.{ℕ, ◌≡◌, List, [], ◌∷◌, ◌++◌, map, eqb, replicate}
use Prim.Native.Char.{code}
use Prim.Native.String as string
use Prim.Native.String.{String}
use Rattle.refusal.specs.Numbers as refusal
use Rattle.refusal.specs.Order.{pick}
use Rattle.line.specs.Answers.{Fault}
use Rattle.line.specs.Bytes.{tab, line_feed, letter_p}
use Rattle.line.specs.Malformed.{Shape, point_shape, origin_shape, geodetic_shape, edition_shape, step_shape, unknown_shape, fault, fault_of}

-- bytes as they stand
abbrev bytes : String → List ℕ
bytes string.[] = []
bytes (string.◌∷◌ c s) = pick (eqb (code c) 124) tab (code c) ∷ bytes s

-- a line: the line feed is its last byte
abbrev line : String → List ℕ
line s = bytes s ++ (line_feed ∷ [])

pub record Trial : Type 0 where
  pub shape : Shape
  pub input : List ℕ
  pub number : ℕ
  pub place : ℕ

abbrev trial : Shape → List ℕ → ℕ → ℕ → Trial
trial shape input number place = record { shape = shape; input = input; number = number; place = place }

abbrev found : Trial → Fault
found t = fault_of t.shape t.input

abbrev expected : Trial → Fault
expected t = fault t.number t.place

-- lines with nothing wrong
abbrev good : List Trial
good =
    trial point_shape (line "P|A1|1|1|6|2000000|-113105165410|623631179950|71174811140") 0 0
    ∷ trial step_shape (line "S|T|6|2000000|6|2006586|-15832|-4363|-9706") 0 0
    ∷ trial step_shape (line "S|B|1|0|5|2000000|C|1|2|3|4|5|6|7") 0 0
    ∷ trial step_shape (line "S|F|9|2010000|10|2010000") 0 0
    ∷ trial origin_shape (line "O|3|1440000000|36720000000|0|0") 0 0
    ∷ trial geodetic_shape (line "G|A1|1440000000|36720000000") 0 0
    ∷ trial edition_shape (line "E|2009") 0 0
    ∷ []

-- no line feed, over 200 bytes with it (the place is never past 200), and an unknown letter besides; a line of 200 bytes is not too long
abbrev frames : List Trial
frames =
    trial point_shape [] refusal.length 0
    ∷ trial point_shape (bytes "P|A1|1") refusal.length 6
    ∷ trial point_shape (line "P|A1|1" ++ (letter_p ∷ [])) refusal.length 8
    ∷ trial point_shape (replicate 200 letter_p ++ (line_feed ∷ [])) refusal.length 200
    ∷ trial unknown_shape (replicate 300 letter_p) refusal.length 200
    ∷ trial unknown_shape (bytes "X|A1") refusal.length 4
    ∷ trial unknown_shape (replicate 199 letter_p ++ (line_feed ∷ [])) refusal.letter 0
    ∷ []

-- first letter, kind, convention; also where the count is wrong, and where an earlier field is bad
abbrev letter_cases : List Trial
letter_cases =
    trial unknown_shape (line "") refusal.letter 0
    ∷ trial point_shape (line "") refusal.letter 0
    ∷ trial point_shape (line "PP|A1|1|1|6|2000000|1|2|3") refusal.letter 0
    ∷ trial edition_shape (line "E2009") refusal.letter 0
    ∷ trial step_shape (line "S|X|6") refusal.letter 2
    ∷ trial step_shape (line "S||6|2000000|6|2006586|1|2|3") refusal.letter 2
    ∷ trial step_shape (line "S|B|1|0|5|2000000|X|1|2|3|4|5|6|7") refusal.letter 18
    ∷ trial step_shape (line "S|B|1|0|5|2000000|") refusal.letter 18
    ∷ trial step_shape (line "S|B|01|0|5|2000000|PC|1|2|3|4|5|6|7") refusal.letter 19
    ∷ []

-- a missing kind or convention, a tab at the end, and a field too few with a bad id and a bad number; a point line without its order
abbrev counts : List Trial
counts =
    trial step_shape (line "S") refusal.count 1
    ∷ trial step_shape (line "S|B|1|0|5|2000000") refusal.count 17
    ∷ trial step_shape (line "S|F|9|2010000|10|2010000|") refusal.count 25
    ∷ trial point_shape (line "P|a1|01|1|6|2000000|1|2") refusal.count 23
    ∷ trial point_shape (line "P|A1|1|6|2000000|1|2|3") refusal.count 22
    ∷ trial edition_shape (line "E|02009|") refusal.count 8
    ∷ []

-- an id, also where a number is bad; and numbers: the leftmost, document 01's line 4, and a line feed more at the end, which is a byte of the last field
abbrev field_cases : List Trial
field_cases =
    trial point_shape (line "P|a1|1|1|6|2000000|1|2|3") refusal.id 2
    ∷ trial geodetic_shape (line "G||01|36720000000") refusal.id 2
    ∷ trial point_shape (line "P|A3|01|1|6|2000000|-113105165410|623631179950|71174811140") refusal.plain 5
    ∷ trial origin_shape (line "O|3|-0|+2|0|0") refusal.plain 4
    ∷ trial edition_shape (line "E|") refusal.plain 2
    ∷ trial geodetic_shape (line "G|A1|1440000000|36720000000" ++ (line_feed ∷ [])) refusal.plain 16
    ∷ []

pub record MalformedCases : Type 0 where
  pub nothing : map found good ≡ map expected good
  pub lengths : map found frames ≡ map expected frames
  pub letters : map found letter_cases ≡ map expected letter_cases
  pub counted : map found counts ≡ map expected counts
  pub fields : map found field_cases ≡ map expected field_cases
