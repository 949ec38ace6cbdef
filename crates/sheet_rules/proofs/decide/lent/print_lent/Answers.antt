-- `sheet_rules::decide::lent::print_lent` meets its contract: a good point is what it is first read as, and any other line is read again. Assumes nothing.
use mathlib.Core.Path.{◌≡◌, sym, ◌∙◌, ap}
use mathlib.Core.List.{List}
use Prim.Native.Nat.{ℕ}
use lib.IntN.{ℤ}
use lib.ListN.{length}
use borrow.Author.Tests.{eqb-true}
use Rattle.ranges.proofs.Ranges.{both}
use Rattle.line.specs.declared.PlacedLine as placed
use Rattle.line.specs.Answers.{PlacedLine, line_told, placed_told}
use Rattle.line.specs.Readers.{read_point, datum_place, placed_point}
use Rattle.line.proofs.AsWritten.{one-read, one-whole, placed_end}
use Rattle.sheet_rules.proofs.decide.lent.print_lent.Goals as goal

-- a text that is one line is read as that line
whole : (y : ℤ) (text : List ℕ) (r : placed.PlacedLine) → placed_told r ≡ placed_point y text 0 → r.end ≡ length text → (line_told r.line ≡ read_point y text) × (r.place ≡ datum_place text)
whole y text r e h = one-read y text {r = placed_told r} (e ∙ one-whole y text (sym (ap (λ (r : PlacedLine). r.end) e ∙ placed_end y text 0) ∙ h))

pub print_moved-requires : goal.print_moved-requires
print_moved-requires c =
    let o = whole _ _ _ c.read_placed-first.ensures (eqb-true _ _ (both _ _ c.if-first-text.true).0) in
    (sym o.0 ∙ ap line_told c.in-Ok.is, o.1)
