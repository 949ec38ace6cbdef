-- `oblique_mercator::to_plane::forward_from` meets its contract: each return has the tests that led there. Assumes nothing.
use borrow.Author.Rules.{rules}
use borrow.Author.Tests.{not-false}
use mathlib.Core.Path.{◌≡◌, sym, ap, ap₂, ◌∙◌}
use mathlib.Core.Bool.{Bool}
use lib.IntN.{ℤ, pos}
use mir.Syntax.{w64}
use mir.Val.{SFits, to_z, of_z}
use mir.ValLaws.{to_z-of_z}
use Rattle.std.specs.Prelude.{Ok, Err}
use Rattle.refusal.specs.Refusals.{number}
use Rattle.refusal.specs.declared.Refusal.{Refusal}
use Rattle.refusal.specs.Order.{first}
use Rattle.refusal.proofs.Refusals.{unless-number}
use Rattle.ranges.specs.Ranges.{within, longitude_range}
use Rattle.ranges.proofs.Ranges.{told}
use Rattle.angle.specs.Ranges.{angle_tests}
use Rattle.angle.proofs.Exits.{told-is}
use Rattle.angle.proofs.NoFault.{angles-read, angles-passed}
use Rattle.oblique_mercator.specs.Forward.{plane_at, forward_from_of}
use Rattle.oblique_mercator.proofs.to_plane.forward_from.Goals as goal

-- what the test says of the centre
centre : (z : ℤ) {r t : Bool} → SFits w64 z → r ≡ within (pos 35640000000) (to_z w64 (of_z w64 z)) (pos 43200000000) → r ≡ t → longitude_range z ≡ t
centre z f e h = told (pos 35640000000) z (pos 43200000000) f e h

pub returns-then-not-is_longitude : goal.returns-then-not-is_longitude
unfolding forward_from_of
returns-then-not-is_longitude c = rw (centre c.args.p.centre (search rules) c.is_longitude.ensures c.if-not-is_longitude.true)

pub returns-in_err-angles_fault : goal.returns-in_err-angles_fault
unfolding forward_from_of
returns-in_err-angles_fault c =
    let a = c.args in
    let r : Refusal = c.in_err-angles_fault.field-0.0 in
    let e : number r ≡ first (angle_tests a.latitude a.longitude) = c.in_err-angles_fault.ensures ∙ angles-read a.latitude a.longitude c.ranges.latitude c.ranges.longitude in
    rw (centre a.p.centre (search rules) c.is_longitude.ensures c.if-not-is_longitude.false)
    (told-is c.from_residual.result r c.from_residual.ensures.1 ∙ sym (unless-number r (first (angle_tests a.latitude a.longitude)) Err (Ok (plane_at a.p a.latitude a.longitude)) e))

pub project-requires : goal.project-requires
project-requires c =
    let a = c.args in
    let p = angles-passed a.latitude a.longitude c.ranges.latitude c.ranges.longitude c.in_ok-angles_fault.ensures in
    rw (to_z-of_z w64 a.latitude c.ranges.latitude, to_z-of_z w64 a.longitude c.ranges.longitude)
    (not-false _ p.0, not-false _ p.1.0, centre a.p.centre (search rules) c.is_longitude.ensures c.if-not-is_longitude.false)

pub returns : goal.returns
unfolding forward_from_of
returns c =
    let a = c.args in
    let p = angles-passed a.latitude a.longitude c.ranges.latitude c.ranges.longitude c.in_ok-angles_fault.ensures in
    rw (centre a.p.centre (search rules) c.is_longitude.ensures c.if-not-is_longitude.false, p.0, p.1.0)
    (ap Ok (c.project.ensures ∙ ap₂ (plane_at a.p) (to_z-of_z w64 a.latitude c.ranges.latitude) (to_z-of_z w64 a.longitude c.ranges.longitude)))
