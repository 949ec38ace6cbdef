-- `capi::projected::swivelcrane_cassini_millimetres` meets its contract: the length, and then what the library answers. Assumes nothing.
use borrow.Author.Rules.{rules}
use borrow.Author.Tests.{eq-eqb, ne_eqb}
use mathlib.Core.List.{[], ◌∷◌}
use mathlib.Core.Path.{sym, ◌∙◌, ap}
use mir.Syntax.{w64}
use mir.Val.{SFits}
use Rattle.rounding.proofs.Machine.{rd, told}
use Rattle.angle.specs.Cassini.{cassini_millimetres_of}
use Rattle.capi.proofs.Origins.{same-origin}
use Rattle.capi.specs.Calls.{of_millimetres, millimetres_call}
use Rattle.capi.proofs.Laws.{declined, wrong, handed-whole}
use Rattle.capi.proofs.projected.swivelcrane_cassini_millimetres.Goals as goal

pub returns-then-out-ne2 : goal.returns-then-out-ne2
unfolding millimetres_call
returns-then-out-ne2 c = wrong (rw (ne_eqb _ _ c.if-out-ne2.true))

pub returns-in-Err : goal.returns-in-Err
unfolding millimetres_call
returns-in-Err c = declined (rw (eq-eqb _ _ c.if-out-ne2.false) (ap of_millimetres (sym (c.in-Err.ensures
    ∙ same-origin cassini_millimetres_of c.origin_from-origin.ensures (rd c.ranges.ellipsoid) (rd c.ranges.origin_latitude) (rd c.ranges.origin_longitude)
    (rd c.ranges.false_easting) (rd c.ranges.false_northing) (rd c.ranges.latitude) (rd c.ranges.longitude))))) (told c.status.type_inv ∙ c.status.ensures)

pub returns-in-Ok : goal.returns-in-Ok
unfolding millimetres_call
returns-in-Ok c =
    let x0 : SFits w64 c.in-Ok.m.easting = search rules in
    let x1 : SFits w64 c.in-Ok.m.northing = search rules in
    handed-whole {vs = c.in-Ok.m.easting ∷ c.in-Ok.m.northing ∷ []} c.give.ensures (rw (eq-eqb _ _ c.if-out-ne2.false) (ap of_millimetres (sym (c.in-Ok.ensures
    ∙ same-origin cassini_millimetres_of c.origin_from-origin.ensures (rd c.ranges.ellipsoid) (rd c.ranges.origin_latitude) (rd c.ranges.origin_longitude)
    (rd c.ranges.false_easting) (rd c.ranges.false_northing) (rd c.ranges.latitude) (rd c.ranges.longitude))))) (x0.sfits, (x1.sfits, tt)) (told c.give.type_inv)
