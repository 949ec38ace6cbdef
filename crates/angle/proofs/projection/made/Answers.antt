-- `angle::projection::made` meets its contract: the numbers are in their ranges, and each value is the printed one. Assumes nothing.
use borrow.Author.Rules.{rules}
use borrow.Author.Tests.{not-false}
use mir.Syntax.{w64}
use mir.Val.{SFits}
use mir.ValLaws.{to_z-of_z}
use Rattle.angle.specs.Ranges.{origin_tests, origin_fault}
use Rattle.angle.specs.Cassini.{origin_made}
use Rattle.refusal.proofs.Orders.{Passed, passed}
use Rattle.angle.proofs.projection.made.Tie as tie
use Rattle.angle.proofs.projection.made.Lts as lts
use Rattle.angle.proofs.projection.made.Reads as reads
use Rattle.angle.proofs.projection.made.Goals as goal

abbrev TheStart : Type 0
TheStart = lts.Start tie.the-claims reads.Pre reads.Post

tests : (c : TheStart) → Passed (origin_tests c.args.o)
unfolding origin_fault
tests c = passed (origin_tests c.args.o) tt c.requires.0

pub metres-east-requires : goal.metres-east-requires
metres-east-requires c =
    let d = c.before.before.before.before in
    let f : SFits w64 d.args.o.false_easting = search rules in
    rw (to_z-of_z w64 d.args.o.false_easting f) (not-false _ (tests d).1.0)

pub metres-north-requires : goal.metres-north-requires
metres-north-requires c =
    let d = c.before.before.before.before.before.before in
    let f : SFits w64 d.args.o.false_northing = search rules in
    rw (to_z-of_z w64 d.args.o.false_northing f) (not-false _ (tests d).1.1.0)

pub returns : goal.returns
unfolding origin_made
returns c =
    let d = c in
    let o = d.args.o in
    let h = d.requires.1 in
    let p : SFits w64 o.ellipsoid = search rules in
    let r : SFits w64 o.longitude = search rules in
    let s : SFits w64 o.false_easting = search rules in
    let t : SFits w64 o.false_northing = search rules in
    rw (c.metres-north.ensures, c.metres-east.ensures, c.ellipsoid-e.ensures, h, to_z-of_z w64 o.ellipsoid p, to_z-of_z w64 o.longitude r, to_z-of_z w64 o.false_easting s, to_z-of_z w64 o.false_northing t)
