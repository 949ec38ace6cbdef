-- `oblique_mercator::from_plane::in_units` meets its contract: what a rounding refuses is 12, and the tests decide the rest. Assumes nothing.
use borrow.Author.Rules.{rules}
use mathlib.Core.Path.{ap, ◌∙◌}
use mir.Syntax.{w64}
use mir.Val.{SFits}
use mir.ValLaws.{to_z-of_z}
use Rattle.std.specs.Prelude.{Err}
use Rattle.refusal.specs.Refusals.{number}
use Rattle.refusal.specs.declared.Refusal.{Refusal}
use Rattle.angle.proofs.Exits.{told-is, instead-err, instead-ok}
use Rattle.oblique_mercator.specs.Reverse.{from_rounded, in_units}
use Rattle.oblique_mercator.proofs.from_plane.in_units.Goals as goal

pub returns-in_err-latitude : goal.returns-in_err-latitude
unfolding in_units from_rounded
returns-in_err-latitude c =
    let t = instead-err c.round_places.result _ _ _ c.round_places.ensures c.in_err-latitude.ensures in
    rw t.was (told-is c.from_residual.result _ c.from_residual.ensures.1 ∙ ap (λ (e : Refusal). Err (number e)) t.is)

pub returns-in_err-difference : goal.returns-in_err-difference
unfolding in_units from_rounded
returns-in_err-difference c =
    let t = instead-err c.round_places-2.result _ _ _ c.round_places-2.ensures c.in_err-difference.ensures in
    rw (instead-ok c.round_places.result _ _ _ c.round_places.ensures c.in_ok-latitude.ensures, t.was)
    (told-is c.from_residual-in_err-difference.result _ c.from_residual-in_err-difference.ensures.1 ∙ ap (λ (e : Refusal). Err (number e)) t.is)

pub returns : goal.returns
unfolding in_units from_rounded
returns c =
    let x : SFits w64 c.in_ok-latitude.latitude = search rules in
    let y : SFits w64 c.in_ok-difference.difference = search rules in
    rw (
      instead-ok c.round_places.result _ _ _ c.round_places.ensures c.in_ok-latitude.ensures,
      instead-ok c.round_places-2.result _ _ _ c.round_places-2.ensures c.in_ok-difference.ensures,
      ← to_z-of_z w64 _ x,
      ← to_z-of_z w64 _ y,
    )
    c.in_ranges.ensures
