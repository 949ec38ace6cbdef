-- `velocity_grid::text::values` meets its contract. Assumes nothing.
use borrow.Author.Rules.{rules}
use mathlib.Core.Path.{◌≡◌, sym, ◌∙◌, ap}
use mathlib.Core.List.{List}
use Prim.Native.Nat.{ℕ}
use Rattle.std.specs.Prelude.{Result, Ok, Err, Option, Some, None}
use Rattle.line.specs.Answers.{Fault, fault_told}
use Rattle.line.specs.Readers.{read_node}
use Rattle.line.specs.declared.VelocityParts.{VelocityParts}
use Rattle.velocity_grid.specs.Text.{values_of}
use Rattle.velocity_grid.proofs.text.values.Goals as goal

of_line : (l : List ℕ) (w : Result (Option VelocityParts) Fault) → w ≡ read_node l → values_of w ≡ values_of (read_node l)
of_line l w e = ap values_of e

pub returns-in-Ok-Some : goal.returns-in-Ok-Some
unfolding values_of
returns-in-Ok-Some c = of_line _ (Ok (Some c.in-Ok-Some.p)) (ap Ok (sym c.in-Ok-Some.field-0-is) ∙ c.in-Ok-Some.ensures)

pub returns-in-Ok-None : goal.returns-in-Ok-None
unfolding values_of
returns-in-Ok-None c = c.no_value.ensures ∙ of_line _ (Ok None) (ap Ok (sym c.in-Ok-None.field-0-is) ∙ c.in-Ok-None.ensures)

pub returns-in-Err : goal.returns-in-Err
unfolding values_of
returns-in-Err c = c.no_value-in-Err.ensures ∙ of_line _ (Err (fault_told c.in-Err.field-0)) c.in-Err.ensures
