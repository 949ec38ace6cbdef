-- `capi::geodetic::swivelcrane_cartesian` meets its contract: the length, and then what the library answers. Assumes nothing.
use borrow.Author.Tests.{eq-eqb, ne_eqb}
use mathlib.Core.Path.{sym, ◌∙◌, ap}
use Rattle.rounding.proofs.Machine.{rd, told, of₄}
use Rattle.angle.specs.Cartesian.{cartesian_of}
use Rattle.capi.specs.Calls.{of_cartesian, cartesian_call}
use Rattle.capi.proofs.Laws.{by, declined, wrong}
use Rattle.capi.proofs.geodetic.swivelcrane_cartesian.Goals as goal

pub returns-then-out-ne3 : goal.returns-then-out-ne3
unfolding cartesian_call
returns-then-out-ne3 c = wrong (rw (ne_eqb _ _ c.if-out-ne3.true))

pub returns-in-Err : goal.returns-in-Err
unfolding cartesian_call
returns-in-Err c = declined (rw (eq-eqb _ _ c.if-out-ne3.false) (ap of_cartesian (sym (c.in-Err.ensures ∙ of₄ cartesian_of (rd c.ranges.ellipsoid) (rd c.ranges.latitude) (rd c.ranges.longitude) (rd c.ranges.height))))) (told c.status.type_inv ∙ c.status.ensures)

pub returns-in-Ok : goal.returns-in-Ok
unfolding cartesian_call
returns-in-Ok c =
    by c.give.ensures (rw (eq-eqb _ _ c.if-out-ne3.false) (ap of_cartesian (sym (c.in-Ok.ensures ∙ of₄ cartesian_of (rd c.ranges.ellipsoid) (rd c.ranges.latitude) (rd c.ranges.longitude) (rd c.ranges.height))))) (told c.give.type_inv)
