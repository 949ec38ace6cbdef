-- `lot_plan::chain_text::lot::swivelcrane_lot_plan` meets its contract. Assumes nothing.
use mathlib.Core.Path.{◌≡◌, refl, ◌∙◌}
use borrow.Author.Tests.{le-leb, lt-leb}
use mir.Syntax.{w64}
use mir.Val.{to_z, of_z}
use Rattle.lot_plan.specs.LotPlan.{least, lot_plan_of}
use borrow.Author.Rules.{rules}
use Rattle.lot_plan.proofs.chain_text.lot.swivelcrane_lot_plan.Goals as goal

pub returns-then-out-lt-ROOM : goal.returns-then-out-lt-ROOM
unfolding lot_plan_of
returns-then-out-lt-ROOM c =
    let r : to_z w64 (of_z w64 c.negated.result) ≡ c.negated.result = search rules in
    rw (lt-leb least _ c.if-out-lt-ROOM.true) (record { answer = r ∙ c.negated.ensures; buffer = refl })

pub returns : goal.returns
unfolding lot_plan_of
returns c =
    let ellipsoid : to_z w64 (of_z w64 c.args.ellipsoid) ≡ c.args.ellipsoid = search rules in
    let latitude : to_z w64 (of_z w64 c.args.origin_latitude) ≡ c.args.origin_latitude = search rules in
    let longitude : to_z w64 (of_z w64 c.args.origin_longitude) ≡ c.args.origin_longitude = search rules in
    let easting : to_z w64 (of_z w64 c.args.false_easting) ≡ c.args.false_easting = search rules in
    let northing : to_z w64 (of_z w64 c.args.false_northing) ≡ c.args.false_northing = search rules in
    let r : to_z w64 (of_z w64 c.write.result) ≡ c.write.result = search rules in
    let l = rw (ellipsoid, latitude, longitude, easting, northing) at c.lot_of.ensures in
    rw (le-leb least _ c.if-out-lt-ROOM.false, r, ← l) c.write.ensures
