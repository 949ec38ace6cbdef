-- `lot_plan::chain_text::take_edition` meets its contract. Assumes nothing.
use borrow.Author.Rules.{rules}
use mathlib.Core.Path.{◌≡◌, sym, ap, ◌∙◌}
use mir.Syntax.{w64}
use mir.Val.{to_z, of_z}
use Rattle.line.specs.Answers.{form_told}
use Rattle.lot_plan.proofs.Laws.{took-edition}
use Rattle.lot_plan.proofs.chain_text.take_edition.Goals as goal

pub returns-in-Ok : goal.returns-in-Ok
returns-in-Ok c =
    λ y ss l none h.
    let v = c.in-Ok.year in
    let q : to_z w64 (of_z w64 c.in-Ok.year) ≡ c.in-Ok.year = search rules in
    let e = sym c.read_edition.ensures ∙ ap form_told c.in-Ok.is in
    rw (e, rw q at c.judge_edition.ensures) (took-edition _ v y ss l none h)
