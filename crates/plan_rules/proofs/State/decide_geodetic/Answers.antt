-- `plan_rules::State::decide_geodetic` meets its contract. Assumes nothing.
use borrow.Author.Rules.{rules}
use mathlib.Core.Path.{◌≡◌, sym, ap, ap₂, ◌∙◌}
use mir.Syntax.{w64}
use mir.Val.{to_z, of_z}
use Rattle.refusal.specs.Refusals.{told}
use Rattle.line.specs.Answers.{line_told}
use Rattle.plan_rules.specs.declared.Reply.TheVariants.{Projected}
use Rattle.plan_rules.proofs.Laws.{on-position, handed-on}
use Rattle.plan_rules.proofs.State.decide_geodetic.Goals as goal

pub returns-in_err-at : goal.returns-in_err-at
returns-in_err-at c = λ p h.
    let g = c.in_ok-g.g in
    let lat : to_z w64 (of_z w64 c.in_ok-g.g.latitude) ≡ c.in_ok-g.g.latitude = search rules in
    let lon : to_z w64 (of_z w64 c.in_ok-g.g.longitude) ≡ c.in_ok-g.g.longitude = search rules in
    handed-on p.line c.in_err-at.field-0.0 c.from_residual-in_err-at.result c.from_residual-in_err-at.ensures.1
    ∙ sym (on-position p _ h _ c.in-Some.is g lat lon (sym c.cassini_millimetres_from.ensures ∙ ap told c.in_err-at.was) _ (sym c.read_geodetic-read.ensures ∙ ap line_told c.in_ok-g.was))

pub returns : goal.returns
returns c = λ p h.
    let g = c.in_ok-g.g in
    let at = c.in_ok-at.at in
    let lat : to_z w64 (of_z w64 c.in_ok-g.g.latitude) ≡ c.in_ok-g.g.latitude = search rules in
    let lon : to_z w64 (of_z w64 c.in_ok-g.g.longitude) ≡ c.in_ok-g.g.longitude = search rules in
    let x : to_z w64 (of_z w64 c.in_ok-at.at.easting) ≡ c.in_ok-at.at.easting = search rules in
    let y : to_z w64 (of_z w64 c.in_ok-at.at.northing) ≡ c.in_ok-at.at.northing = search rules in
    ap₂ (Projected g.id) x y
    ∙ sym (on-position p _ h _ c.in-Some.is g lat lon (sym c.cassini_millimetres_from.ensures ∙ ap told c.in_ok-at.was) _ (sym c.read_geodetic-read.ensures ∙ ap line_told c.in_ok-g.was))
