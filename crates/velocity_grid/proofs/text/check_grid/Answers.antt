-- `velocity_grid::text::check_grid` meets its contract: the header's line, then those after it. Assumes nothing.
use borrow.Author.Rules.{rules}
use borrow.Author.Tests.{eqb-true, eqb-false}
use native.Mathlib.Omega.{arith}
use mathlib.Core.Path.{◌≡◌, sym, ◌∙◌, ap}
use lib.Seq.{length-take-le}
use Rattle.std.specs.Prelude.{Ok, Err}
use Rattle.line.specs.Answers as line-answers
use Rattle.velocity_grid.specs.Text.{headed}
use Rattle.velocity_grid.proofs.Texts as T
use Rattle.velocity_grid.proofs.text.check_grid.Goals as goal

pub returns-then-is_empty : goal.returns-then-is_empty
returns-then-is_empty c = ap Err c.miscounted.ensures ∙ T.by-none _ (eqb-true _ 0 (sym c.if-is_empty.ensures))

pub slice_bounds-read_grid_header-end : goal.slice_bounds-read_grid_header-end
slice_bounds-read_grid_header-end c = sym (length-take-le _ _ (T.ends _ 0 _ c.line_end-end.ensures (omega arith)).inside)

pub with_header-requires : goal.with_header-requires
with_header-requires c = (T.ends _ 0 _ c.line_end-end.ensures (omega arith)).inside

pub returns-in-Err : goal.returns-in-Err
unfolding headed
returns-in-Err c =
    ap Err c.on_line.ensures
    ∙ T.by_first _ _ c.line_end-end.ensures (omega (arith, eqb-false _ 0 (sym c.if-is_empty.ensures))) (Err (line-answers.fault_told c.in-Err.fault)) (sym c.in-Err.ensures)

pub returns-in-Ok : goal.returns-in-Ok
returns-in-Ok c =
    c.with_header.ensures
    ∙ T.by_first _ _ c.line_end-end.ensures (omega (arith, eqb-false _ 0 (sym c.if-is_empty.ensures))) (Ok c.in-Ok.g) (sym c.in-Ok.ensures)
