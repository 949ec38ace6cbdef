-- `angle::faults::origin_fault` meets its contract: each return rewrites with the tests that led there. Assumes nothing.
use borrow.Author.Rules.{rules}
use mathlib.Core.Path.{◌≡◌, ◌∙◌, ap₂}
use mathlib.Core.Bool.{Bool, true, false}
use lib.IntN.{pos, negsuc}
use mir.Syntax.{w64}
use mir.ValLaws.{to_z-of_z}
use Rattle.ranges.specs.Ranges.{ellipsoid_range, offset_range}
use Rattle.ranges.proofs.Ranges.{told}
use Rattle.angle.specs.Ranges.{angles_fault, origin_fault}
use Rattle.angle.proofs.faults.origin_fault.Tie as tie
use Rattle.angle.proofs.faults.origin_fault.Lts as lts
use Rattle.angle.proofs.faults.origin_fault.Reads as reads
use Rattle.angle.proofs.faults.origin_fault.Goals as goal

abbrev TheAfterIsEllipsoid : Type 0
TheAfterIsEllipsoid = lts.After-is_ellipsoid tie.the-claims reads.Pre reads.Post

abbrev TheAfterIsOffset : Type 0
TheAfterIsOffset = lts.After-is_offset tie.the-claims reads.Pre reads.Post

abbrev TheAfterIsOffset2 : Type 0
TheAfterIsOffset2 = lts.After-is_offset2 tie.the-claims reads.Pre reads.Post

abbrev TheElse2 : Type 0
TheElse2 = lts.Else2 tie.the-claims reads.Pre reads.Post

code : (c : TheAfterIsEllipsoid) (t : Bool) → c.is_ellipsoid.result ≡ t → ellipsoid_range c.args.o.ellipsoid ≡ t
code c t h = told (pos 1) c.args.o.ellipsoid (pos 4) (search rules) c.is_ellipsoid.ensures h

easting : (c : TheAfterIsOffset) (t : Bool) → c.is_offset.result ≡ t → offset_range c.args.o.false_easting ≡ t
easting c t h = told (negsuc 1999999999) c.args.o.false_easting (pos 2000000000) (search rules) c.is_offset.ensures h

northing : (c : TheAfterIsOffset2) (t : Bool)
    → c.is_offset-2.result ≡ t
    → offset_range c.args.o.false_northing ≡ t
northing c t h =
    told (negsuc 1999999999) c.args.o.false_northing (pos 2000000000) (search rules) c.is_offset-2.ensures h

pub returns-then-not-is_ellipsoid : goal.returns-then-not-is_ellipsoid
unfolding origin_fault
returns-then-not-is_ellipsoid c = rw (code c.before false (c.if-not-is_ellipsoid.true))

pub returns-then-not-is_offset : goal.returns-then-not-is_offset
unfolding origin_fault
returns-then-not-is_offset c = rw (code c.before.before.before.before true (c.if-not-is_ellipsoid.false), easting c.before false (c.if-not-is_offset.true))

-- past the first two tests, and past all three
first_two : (c : TheElse2) → (ellipsoid_range c.args.o.ellipsoid ≡ true) × (offset_range c.args.o.false_easting ≡ true)
first_two c = (code c.before.before.before.before true (c.if-not-is_ellipsoid.false), easting c.before true (c.if-not-is_offset.false))

pub returns-then-not-is_offset-2 : goal.returns-then-not-is_offset-2
unfolding origin_fault
returns-then-not-is_offset-2 c =
    let p = first_two c.before.before.before in
    rw (p.0, p.1, northing c.before false (c.if-not-is_offset-2.true))

pub returns : goal.returns
unfolding origin_fault angles_fault
returns c =
    let p = first_two c.before.before.before.before.before.before in
    let o = c.args.o in
    rw (p.0, p.1, northing c.before.before.before.before true (c.if-not-is_offset-2.false))
    (c.angles_fault.ensures ∙ ap₂ angles_fault (to_z-of_z w64 o.latitude (search rules)) (to_z-of_z w64 o.longitude (search rules)))
