-- `capi::geodetic::swivelcrane_cartesian_units` meets its contract: the length, and then what the library answers. Assumes nothing.
use borrow.Author.Rules.{rules}
use borrow.Author.Tests.{eq-eqb, ne_eqb}
use mathlib.Core.List.{[], ◌∷◌}
use mathlib.Core.Path.{sym, ◌∙◌, ap}
use mir.Syntax.{w64}
use mir.Val.{SFits}
use Rattle.rounding.proofs.Machine.{rd, told, of₄}
use Rattle.angle.specs.Cartesian.{cartesian_units_of}
use Rattle.capi.specs.Calls.{of_units, units_call}
use Rattle.capi.proofs.Laws.{declined, wrong, handed-whole}
use Rattle.capi.proofs.geodetic.swivelcrane_cartesian_units.Goals as goal

pub returns-then-out-ne3 : goal.returns-then-out-ne3
unfolding units_call
returns-then-out-ne3 c = wrong (rw (ne_eqb _ _ c.if-out-ne3.true))

pub returns-in-Err : goal.returns-in-Err
unfolding units_call
returns-in-Err c = declined (rw (eq-eqb _ _ c.if-out-ne3.false) (ap of_units (sym (c.in-Err.ensures ∙ of₄ cartesian_units_of (rd c.ranges.ellipsoid) (rd c.ranges.latitude) (rd c.ranges.longitude) (rd c.ranges.height))))) (told c.status.type_inv ∙ c.status.ensures)

pub returns-in-Ok : goal.returns-in-Ok
unfolding units_call
returns-in-Ok c =
    let x0 : SFits w64 c.in-Ok.p.x = search rules in
    let x1 : SFits w64 c.in-Ok.p.y = search rules in
    let x2 : SFits w64 c.in-Ok.p.z = search rules in
    handed-whole {vs = c.in-Ok.p.x ∷ c.in-Ok.p.y ∷ c.in-Ok.p.z ∷ []} c.give.ensures (rw (eq-eqb _ _ c.if-out-ne3.false) (ap of_units (sym (c.in-Ok.ensures ∙ of₄ cartesian_units_of (rd c.ranges.ellipsoid) (rd c.ranges.latitude) (rd c.ranges.longitude) (rd c.ranges.height))))) (x0.sfits, (x1.sfits, (x2.sfits, tt))) (told c.give.type_inv)
