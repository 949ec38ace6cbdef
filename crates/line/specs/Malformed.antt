-- What is wrong with the form of a line, and at which of its bytes, counted from 0. The order 18, 19, 20, 21, 22 is over the whole line and not from left to
-- right: a bad letter comes before a wrong count of fields, and that before a bad id or number, wherever they stand.
use Rattle.std.specs.Prelude.{ℕ, ◌+◌, ◌-◌, min, List, [], ◌∷◌, ◌++◌, length, replicate, ◌==◌, slice_index}
use Rattle.std.proofs.Math.Option.{Option, none, some}
use Rattle.refusal.specs.Numbers as refusal
use Rattle.refusal.specs.Order.{pick}
use Rattle.line.specs.Answers.{Fault}
use Rattle.line.specs.Bytes.{line_feed, letter_p, letter_s, letter_t, letter_v, letter_b, letter_f, letter_c, letter_o, letter_g, letter_e}
use Rattle.line.specs.Fields.{longest_line, body, fields, single, letter_of}
use Rattle.line.specs.Name.{name_of}
use Rattle.line.specs.Number.{number_of}

-- ---- what each field is to be
-- one letter out of these, an id, or a number in plain form
pub data Class : Type 0 where
  letters : List ℕ → Class
  identifier : Class
  number : Class

-- the fields of a line, by the fields that it has: a kind of step decides what follows it
abbrev pub Shape : Type 0
Shape = List (List ℕ) → List Class

abbrev pub numbers : ℕ → List Class
numbers n = replicate n number

-- P, id, issue, order, datum, epoch, X, Y, Z
abbrev pub point_shape : Shape
point_shape fs = letters (letter_p ∷ []) ∷ identifier ∷ numbers 7

-- O, ellipsoid, latitude, longitude, FE, FN
abbrev pub origin_shape : Shape
origin_shape fs = letters (letter_o ∷ []) ∷ numbers 5

-- G, id, latitude, longitude
abbrev pub geodetic_shape : Shape
geodetic_shape fs = letters (letter_g ∷ []) ∷ identifier ∷ numbers 2

-- E, year
abbrev pub edition_shape : Shape
edition_shape fs = letters (letter_e ∷ []) ∷ numbers 1

-- G, latitude, longitude, rows, columns, mesh
abbrev pub grid_shape : Shape
grid_shape fs = letters (letter_g ∷ []) ∷ numbers 5

-- east, north, up
abbrev pub node_shape : Shape
node_shape fs = numbers 3

-- a line that begins with no letter which its program reads
abbrev pub unknown_shape : Shape
unknown_shape fs = letters [] ∷ []

-- the kind of a step, its second field; 0 where there is no such field, or it is not one byte
abbrev pub byte_of : Option ℕ → ℕ
byte_of none = 0
byte_of (some b) = b

abbrev pub kind_of : List (List ℕ) → ℕ
kind_of [] = 0
kind_of (f ∷ []) = 0
kind_of (f ∷ g ∷ fs) = byte_of (single g)

-- T, V: three numbers; B: P or C, and seven numbers; F: none
abbrev pub kind_shape : ℕ → List Class
kind_shape k =
    pick (k == letter_t) (numbers 3)
    (pick (k == letter_v) (numbers 3)
    (pick (k == letter_b) (letters (letter_p ∷ letter_c ∷ []) ∷ numbers 7) []))

-- S, kind, datum, epoch, datum, epoch, then by kind
abbrev pub step_shape : Shape
step_shape fs = letters (letter_s ∷ []) ∷ letters (letter_t ∷ letter_v ∷ letter_b ∷ letter_f ∷ []) ∷ (numbers 4 ++ kind_shape (kind_of fs))

-- ---- what is wrong with one field: the number of its class, 0 for nothing
abbrev pub unread : {A : Type 0} → ℕ → Option A → ℕ
unread n none = n
unread n (some a) = 0

abbrev pub field_fault : Class → List ℕ → ℕ
field_fault (letters ls) f = unread refusal.letter (letter_of ls f)
field_fault identifier f = unread refusal.id (name_of f)
field_fault number f = unread refusal.plain (number_of f)

-- ---- where it is
-- the first field with fault n begins here, if the first of all begins at `at`; a field is its bytes and the tab after it
unfoldable pub offending : ℕ → ℕ → List Class → List (List ℕ) → Option ℕ
offending n at [] fs = none
offending n at (c ∷ cs) [] = none
offending n at (c ∷ cs) (f ∷ fs) = pick (field_fault c f == n) (some at) (offending n (at + length f + 1) cs fs)

-- the line's length without the line feed at its end, at most 200
unfoldable pub end_of : List ℕ → ℕ
end_of line = min (pick (slice_index line (length line - 1) == line_feed) (length line - 1) (length line)) longest_line

-- where there are too many fields or too few
abbrev pub miscounted : List Class → List (List ℕ) → ℕ → Option ℕ
miscounted cs fs end = pick (length fs == length cs) none (some end)

-- ---- what is wrong with the line
abbrev pub fault : ℕ → ℕ → Fault
fault n place = record { number = n; place = place }

-- this number, if there is a place for it
abbrev pub or_next : ℕ → Option ℕ → Fault → Fault
or_next n (some place) next = fault n place
or_next n none next = next

-- 19, 20, 21, 22; 0 for nothing
unfoldable pub fields_fault : List Class → ℕ → List (List ℕ) → Fault
fields_fault cs end fs =
    or_next refusal.letter (offending refusal.letter 0 cs fs)
    (or_next refusal.count (miscounted cs fs end)
    (or_next refusal.id (offending refusal.id 0 cs fs)
    (or_next refusal.plain (offending refusal.plain 0 cs fs)
    (fault 0 0))))

-- 18 before all
abbrev pub body_fault : Shape → ℕ → Option (List ℕ) → Fault
body_fault shape end none = fault refusal.length end
body_fault shape end (some s) = fields_fault (shape (fields s)) end (fields s)

unfoldable pub fault_of : Shape → List ℕ → Fault
fault_of shape line = body_fault shape (end_of line) (body line)
