-- `velocity_grid::text::awaited_fault` meets its contract. Assumes nothing.
use borrow.Author.Rules.{rules}
use mathlib.Core.Path.{◌≡◌, sym, ◌∙◌, ap}
use mathlib.Core.List.{List}
use mathlib.Core.Bool.{Bool, true, false}
use Prim.Native.Nat.{ℕ}
use lib.Dec.{eqb}
use lib.ListN.{length}
use Rattle.std.specs.Prelude.{Result, Ok, Err, Option, Some, None}
use Rattle.line.specs.Answers.{Fault, fault_told}
use Rattle.line.specs.Readers.{read_node}
use Rattle.line.specs.declared.VelocityParts.{VelocityParts}
use Rattle.velocity_grid.specs.Text.{node_fault}
use Rattle.velocity_grid.specs.Reading.{awaited_fault}
use Rattle.velocity_grid.proofs.text.awaited_fault.Goals as goal

-- a line that is there, by what it is read as
by-line : (n : ℕ) (l : List ℕ) (w : Result (Option VelocityParts) Fault) → eqb (length l) 0 ≡ false → w ≡ read_node l → node_fault n w ≡ awaited_fault n l
unfolding awaited_fault
by-line n l w z e = rw (z, e)

pub returns-then-is_empty : goal.returns-then-is_empty
unfolding awaited_fault
returns-then-is_empty c = rw (sym c.if-is_empty.ensures) c.miscounted.ensures

pub returns-in-Err : goal.returns-in-Err
unfolding node_fault
returns-in-Err c = c.on_line.ensures ∙ by-line _ _ (Err (fault_told c.in-Err.fault)) (sym c.if-is_empty.ensures) c.in-Err.ensures

pub returns-in-Ok-None : goal.returns-in-Ok-None
unfolding node_fault
returns-in-Ok-None c = by-line _ _ (Ok None) (sym c.if-is_empty.ensures) (ap Ok (sym c.in-Ok-None.field-0-is) ∙ c.in-Ok-None.ensures)

pub returns-in-Ok-Some : goal.returns-in-Ok-Some
returns-in-Ok-Some c =
    c.parts_fault.ensures ∙ by-line _ _ (Ok (Some c.in-Ok-Some.p)) (sym c.if-is_empty.ensures) (ap Ok (sym c.in-Ok-Some.field-0-is) ∙ c.in-Ok-Some.ensures)
