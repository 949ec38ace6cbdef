-- `angle::projection::make_origin` meets its contract: the faults decide, and then the values. Assumes nothing.
use borrow.Author.Rules.{rules}
use mathlib.Core.Path.{sym, ap, ◌∙◌}
use Rattle.std.specs.Prelude.{Ok, Err}
use mir.Syntax.{w64}
use mir.Val.{SFits}
use mir.ValLaws.{to_z-of_z}
use Rattle.angle.specs.Ranges.{origin_fault}
use Rattle.angle.specs.Cassini.{origin_made, origin_of}
use Rattle.refusal.proofs.Orders.{unless-none}
use Rattle.angle.proofs.Exits.{refused}
use Rattle.angle.proofs.NoFault.{origin-latitude}
use Rattle.angle.proofs.projection.make_origin.Goals as goal

pub returns-in_err-origin_fault : goal.returns-in_err-origin_fault
unfolding origin_of
returns-in_err-origin_fault c = refused c.from_residual.result _ (origin_fault c.args.o) (Ok (origin_made c.args.o)) c.from_residual.ensures.1 c.in_err-origin_fault.ensures

pub invariant_of-latitude : goal.invariant_of-latitude
invariant_of-latitude c =
    let o = c.args.o in
    let f : SFits w64 o.latitude = search rules in
    let s = c.in_ok-origin_fault.ensures in
    rw (to_z-of_z w64 o.latitude f) (record { in_range = origin-latitude o (sym s) })

pub returns : goal.returns
unfolding origin_of
returns c = ap Ok c.made.ensures ∙ sym (unless-none (origin_fault c.args.o) Err (Ok (origin_made c.args.o)) (sym c.in_ok-origin_fault.ensures))
