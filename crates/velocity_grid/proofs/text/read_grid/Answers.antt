-- `velocity_grid::text::read_grid` meets its contract: examined first, then put into the room. Assumes nothing.
use borrow.Author.Rules.{rules}
use mathlib.Core.Path.{◌≡◌, sym, ◌∙◌, ap}
use lib.Seq.{sets}
use Rattle.std.specs.Prelude.{Result}
use Rattle.line.specs.declared.GridHeader.{GridHeader}
use Rattle.velocity_grid.specs.Answers.{GridFault}
use Rattle.velocity_grid.specs.Text.{grid_of, grid_numbers, room_after}
use Rattle.velocity_grid.proofs.Texts as T
use Rattle.velocity_grid.proofs.text.read_grid.Goals as goal

pub fill-requires : goal.fill-requires
fill-requires c = T.for-filling _ _ c.line_end.ensures c.in_ok-g.g (sym c.in_ok-g.ensures)

pub returns : goal.returns
returns c =
    let a = c.args in (
      c.in_ok-g.ensures,
      c.fill.ensures ∙ ap (sets a.nodes.now 0) (sym (T.numbers_after _ _ c.line_end.ensures c.in_ok-g.g (sym c.in_ok-g.ensures)))
          ∙ ap (λ (w : Result GridHeader GridFault). room_after w (grid_numbers a.text.now) a.nodes.now) c.in_ok-g.ensures,
    )
