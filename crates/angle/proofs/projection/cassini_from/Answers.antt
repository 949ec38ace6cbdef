-- `angle::projection::cassini_from` meets its contract: the point's faults decide, and then the formulas. Assumes nothing.
use borrow.Author.Rules.{rules}
use mathlib.Core.Path.{sym, ap, ap₂, ◌∙◌}
use mir.Syntax.{w64}
use mir.Val.{SFits}
use mir.ValLaws.{to_z-of_z}
use Rattle.std.specs.Prelude.{Ok, Err}
use Rattle.refusal.specs.Order.{first}
use Rattle.refusal.proofs.Orders.{unless-none}
use Rattle.angle.specs.Ranges.{angles_and_meridian_tests}
use Rattle.angle.specs.Cassini.{cassini_at, cassini_from_of}
use Rattle.angle.proofs.Exits.{refused}
use Rattle.angle.proofs.NoFault.{point-read}
use Rattle.angle.proofs.projection.cassini_from.Goals as goal

pub returns-in_err-meridian_fault : goal.returns-in_err-meridian_fault
unfolding cassini_from_of
returns-in_err-meridian_fault c =
    let a = c.args in
    let f : SFits w64 a.origin.longitude = search rules in
    let n = first (angles_and_meridian_tests a.origin.longitude a.latitude a.longitude) in
    refused c.from_residual.result _ n (Ok (cassini_at a.origin a.latitude a.longitude)) c.from_residual.ensures.1
    (c.in_err-meridian_fault.ensures ∙ point-read a.origin.longitude a.latitude a.longitude f c.ranges.latitude c.ranges.longitude)

pub returns : goal.returns
unfolding cassini_from_of
returns c =
    let a = c.args in
    let f : SFits w64 a.origin.longitude = search rules in
    let n = first (angles_and_meridian_tests a.origin.longitude a.latitude a.longitude) in
    ap Ok (c.project.ensures ∙ ap₂ (cassini_at a.origin) (to_z-of_z w64 a.latitude c.ranges.latitude) (to_z-of_z w64 a.longitude c.ranges.longitude))
    ∙ sym (unless-none n Err (Ok (cassini_at a.origin a.latitude a.longitude))
    (sym (c.in_ok-meridian_fault.ensures ∙ point-read a.origin.longitude a.latitude a.longitude f c.ranges.latitude c.ranges.longitude)))
