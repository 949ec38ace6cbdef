-- `capi::rso::swivelcrane_rso_reverse` meets its contract: the lengths, and then what the library answers. Assumes nothing.
use borrow.Author.Rules.{rules}
use borrow.Author.Tests.{eq-eqb, ne_eqb}
use mathlib.Core.List.{[], ◌∷◌}
use mathlib.Core.Path.{◌≡◌, sym, ◌∙◌, ap}
use lib.Ieee.{Float}
use mir.Syntax.{w64}
use mir.Val.{SFits}
use Rattle.rounding.proofs.Machine.{told}
use Rattle.oblique_mercator.specs.Reverse.{reverse_of}
use Rattle.oblique_mercator.specs.declared.Parameters.{Parameters}
use Rattle.capi.specs.Rso.{of_angles, rso_reverse_call}
use Rattle.capi.proofs.Laws.{declined, wrong, handed-whole}
use Rattle.capi.proofs.rso.swivelcrane_rso_reverse.Goals as goal

same_point : {p q : Parameters} (e n : Float) → p ≡ q → reverse_of p e n ≡ reverse_of q e n
same_point e n f = rw f

pub returns-then-parameters-ne8 : goal.returns-then-parameters-ne8
unfolding rso_reverse_call
returns-then-parameters-ne8 c = wrong (rw (ne_eqb _ _ c.if-parameters-ne8.true))

pub returns-then-out-ne2 : goal.returns-then-out-ne2
unfolding rso_reverse_call
returns-then-out-ne2 c = wrong (rw (eq-eqb _ _ c.if-parameters-ne8.false, ne_eqb _ _ c.if-out-ne2.true))

pub returns-in-Err : goal.returns-in-Err
unfolding rso_reverse_call
returns-in-Err c =
    declined
    (rw (eq-eqb _ _ c.if-parameters-ne8.false, eq-eqb _ _ c.if-out-ne2.false)
    (ap of_angles (sym (c.in-Err.ensures ∙ same_point c.args.easting c.args.northing c.parameters_from-p.ensures))))
    (told c.status.type_inv ∙ c.status.ensures)

pub returns-in-Ok : goal.returns-in-Ok
unfolding rso_reverse_call
returns-in-Ok c =
    let x : SFits w64 c.in-Ok.p.latitude = search rules in
    let y : SFits w64 c.in-Ok.p.longitude = search rules in
    handed-whole {vs = c.in-Ok.p.latitude ∷ c.in-Ok.p.longitude ∷ []} c.give.ensures
    (rw (eq-eqb _ _ c.if-parameters-ne8.false, eq-eqb _ _ c.if-out-ne2.false)
    (ap of_angles (sym (c.in-Ok.ensures ∙ same_point c.args.easting c.args.northing c.parameters_from-p.ensures))))
    (x.sfits, (y.sfits, tt)) (told c.give.type_inv)
