-- A velocity grid in our own lines: a header, then a line a node, eastward, rows going north.
use Rattle.std.specs.Prelude.{Bool, ◌&&◌, List, [], ◌∷◌, ◌++◌, ℕ, zero, suc, eqb, ℤ, pos, Result, Ok, Err, Option, Some, None}
use Rattle.std.proofs.lemmas.List.Edits.{sets}
use Rattle.refusal.specs.Numbers as refusal
use Rattle.refusal.specs.Order.{pick}
use Rattle.line.specs.Lines.{lines}
use Rattle.line.specs.Malformed.{fault}
use Rattle.line.specs.Readers.{read_grid_header, read_node}
use Rattle.line.specs.Answers.{Fault}
use Rattle.line.specs.declared.GridHeader.{GridHeader}
use Rattle.line.specs.declared.VelocityParts.{VelocityParts}
use Rattle.velocity_grid.specs.OnGrid.{grid_range, nodes_of}
use Rattle.velocity_grid.specs.AtPoint.{part_range}
use Rattle.velocity_grid.specs.Answers.{GridFault, faultless}

-- ---- what is wrong
-- with the line of this number, from 1
abbrev pub on_line : ℕ → Fault → GridFault
on_line n f = record { number = f.number; line = n; place = f.place }

-- with no line: lines are missing, or something is left over
abbrev pub miscounted : GridFault
miscounted = record { number = refusal.lines; line = 0; place = 0 }

-- the first of two
abbrev pub or_else : GridFault → GridFault → GridFault
or_else f g = pick (eqb f.number 0) g f

-- ---- a node's line: its form, then its ranges
unfoldable pub parts_range : VelocityParts → Bool
parts_range p = part_range p.east && part_range p.north && part_range p.up

unfoldable pub node_fault : ℕ → Result (Option VelocityParts) Fault → GridFault
node_fault n (Err f) = on_line n f
node_fault n (Ok (Some p)) = pick (parts_range p) faultless (on_line n (fault refusal.range 0))
node_fault n (Ok None) = faultless

-- so many awaited lines, the first of them number n, and nothing after them; what is left over is not read
unfoldable pub nodes_fault : ℕ → ℕ → List (List ℕ) → GridFault
nodes_fault zero n [] = faultless
nodes_fault zero n (l ∷ ls) = miscounted
nodes_fault (suc k) n [] = miscounted
nodes_fault (suc k) n (l ∷ ls) = or_else (node_fault n (read_node l)) (nodes_fault k (suc n) ls)

-- ---- a text
abbrev pub unless_grid_fault : GridFault → GridHeader → Result GridHeader GridFault
unless_grid_fault f g = pick (eqb f.number 0) (Ok g) (Err f)

unfoldable pub headed : Result GridHeader Fault → List (List ℕ) → Result GridHeader GridFault
headed (Err f) ls = Err (on_line 1 f)
headed (Ok g) ls = pick (grid_range g) (unless_grid_fault (nodes_fault (nodes_of g) 2 ls) g) (Err (on_line 1 (fault refusal.range 0)))

unfoldable pub grid_in : List (List ℕ) → Result GridHeader GridFault
grid_in [] = Err miscounted
grid_in (l ∷ ls) = headed (read_grid_header l) ls

-- of the first refused line 18 to 22 (19 for the header only), then 2; then 30
unfoldable pub grid_of : List ℕ → Result GridHeader GridFault
grid_of text = grid_in (lines text)

-- ---- the numbers of its nodes, three each
-- where there is no value: past every part's range
abbrev pub no_value : ℤ
no_value = pos 9999

abbrev pub without_value : VelocityParts
without_value = record { east = no_value; north = no_value; up = no_value }

unfoldable pub values_of : Result (Option VelocityParts) Fault → VelocityParts
values_of (Ok (Some p)) = p
values_of (Ok None) = without_value
values_of (Err f) = without_value

abbrev pub three_numbers : VelocityParts → List ℤ
three_numbers p = p.east ∷ p.north ∷ p.up ∷ []

unfoldable pub nodes_in : List (List ℕ) → List ℤ
nodes_in [] = []
nodes_in (l ∷ ls) = three_numbers (values_of (read_node l)) ++ nodes_in ls

abbrev pub after_first : List (List ℕ) → List (List ℕ)
after_first [] = []
after_first (l ∷ ls) = ls

unfoldable pub grid_numbers : List ℕ → List ℤ
grid_numbers text = nodes_in (after_first (lines text))

-- ---- the lent room: the numbers from its start on, and the rest as it was; where the text is refused, all of it
abbrev pub room_after : Result GridHeader GridFault → List ℤ → List ℤ → List ℤ
room_after (Err f) numbers before = before
room_after (Ok g) numbers before = sets before 0 numbers
