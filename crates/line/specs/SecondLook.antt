-- How the code looks at a bad line a second time, field by field.
use Rattle.std.specs.Prelude.{◌≡◌, ℕ, ◌+◌, ◌≤◌, List, [], ◌∷◌, ◌++◌, length, ◌==◌, Some, None}
use Rattle.std.specs.declared.option.Option as declared
use Rattle.std.proofs.Math.Option.{Option, none, some}
use Rattle.refusal.specs.Numbers as refusal
use Rattle.refusal.specs.Order.{pick}
use Rattle.line.specs.declared.awaited.Awaited.{Awaited}
use Rattle.line.specs.declared.awaited.Awaited.TheVariants.{Letter, Kind, Convention, Identifier, Number, Nothing}
use Rattle.line.specs.Bytes.{minus, letter_p, letter_s, letter_t, letter_v, letter_b, letter_f, letter_c, letter_o, letter_g, letter_e}
use Rattle.line.specs.Malformed.{Class, letters, identifier, number, Shape, numbers, kind_of, kind_shape, field_fault, offending}
use Rattle.line.specs.Reading.{from}

-- ---- the shapes by the line's mark, which is its first letter but for the lines of a velocity grid, and the step's kind
abbrev pub step_rest : ℕ → List Class
step_rest kind = letters (letter_t ∷ letter_v ∷ letter_b ∷ letter_f ∷ []) ∷ (numbers 4 ++ kind_shape kind)

abbrev pub rest_of : ℕ → ℕ → List Class
rest_of first kind =
    pick (first == letter_p) (identifier ∷ numbers 7)
    (pick (first == letter_s) (step_rest kind)
    (pick (first == letter_o) (numbers 5)
    (pick (first == letter_g) (identifier ∷ numbers 2)
    (pick (first == letter_e) (numbers 1) []))))

abbrev pub lettered_of : ℕ → ℕ → List Class
lettered_of first kind = letters (first ∷ []) ∷ rest_of first kind

-- a velocity grid's header begins with G as a position does; its mark is a small g, and a node's a hyphen
abbrev pub grid_mark : ℕ
grid_mark = 103

abbrev pub grid_classes : List Class
grid_classes = letters (letter_g ∷ []) ∷ numbers 5

abbrev pub classes_of : ℕ → ℕ → List Class
classes_of mark kind = pick (mark == minus) (numbers 3) (pick (mark == grid_mark) grid_classes (lettered_of mark kind))

abbrev pub shape_of : ℕ → Shape
shape_of mark fs = classes_of mark (kind_of fs)

abbrev pub class_of : Awaited → Option Class
class_of (Letter l) = some (letters (l ∷ []))
class_of Kind = some (letters (letter_t ∷ letter_v ∷ letter_b ∷ letter_f ∷ []))
class_of Convention = some (letters (letter_p ∷ letter_c ∷ []))
class_of Identifier = some identifier
class_of Number = some number
class_of Nothing = none

-- ---- one field
-- what is wrong with the first of the fields
abbrev pub first_fault : Option Class → List (List ℕ) → ℕ
first_fault none fs = 0
first_fault (some c) [] = 0
first_fault (some c) (f ∷ fs) = field_fault c f

-- the field that begins at `at`; the next begins past the tab after it
pub record Passed (s : List ℕ) (at next : ℕ) : Type 0 where
  pub bytes : List ℕ
  pub there : from s at ≡ bytes ∷ from s next
  pub place : next ≡ at + length bytes + 1
  pub inside : next ≤ length s + 1

-- ---- the whole line
-- a place that the code has found
abbrev pub place_told : declared.Option ℕ → Option ℕ
place_told None = none
place_told (Some place) = some place

-- it is within the line
abbrev pub Within : List ℕ → declared.Option ℕ → Type 0
Within s None = Unit {0}
Within s (Some place) = place ≤ length s

-- a place that was found before, or what is found from here on
abbrev pub earlier : Option ℕ → Option ℕ → Option ℕ
earlier none later = later
earlier (some place) later = some place

-- where the first field with fault n begins, of those from `at` on, which are to be of these classes
pub record FirstWrong (n : ℕ) (s : List ℕ) (at : ℕ) (cs : List Class) (place : declared.Option ℕ) : Type 0 where
  pub is : place_told place ≡ offending n at cs (from s at)
  pub within : Within s place

-- so many numbers from `at` on are passed: a letter that is wrong after them is the same from `next` on
pub record Skipped (s : List ℕ) (many at next : ℕ) : Type 0 where
  pub same : (cs : List Class) → offending refusal.letter at (numbers many ++ cs) (from s at) ≡ offending refusal.letter next cs (from s next)

-- ids and numbers
pub record Looked (s : List ℕ) (cs : List Class) (id plain : declared.Option ℕ) : Type 0 where
  pub id-at : FirstWrong refusal.id s 0 cs id
  pub plain_at : FirstWrong refusal.plain s 0 cs plain
