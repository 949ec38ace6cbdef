-- `angle::from_xyz::in_ranges` meets its contract: each return rewrites with the tests that led there, and the longitude's test is that of its part past 90 degrees. Assumes nothing.
use mathlib.Core.Path.{◌≡◌, sym, ◌∙◌, subst}
use mathlib.Core.Bool.{Bool, true, false}
use lib.IntN.{ℤ, pos, negsuc, ◌+ℤ◌}
use native.Mathlib.Omega.{arith}
use mir.Syntax.{w64}
use mir.Val.{SFits, to_z, of_z}
use mir.ValLaws.{to_z-of_z}
use Rattle.ranges.specs.Ranges.{within, latitude_range, longitude_range, height_range}
use Rattle.ranges.proofs.Ranges.{told, natural}
use Rattle.angle.specs.Geodetic.{in_ranges}
use Rattle.angle.proofs.Wholes.{fits, moved}
use Rattle.angle.proofs.from_xyz.in_ranges.Tie as tie
use Rattle.angle.proofs.from_xyz.in_ranges.Lts as lts
use Rattle.angle.proofs.from_xyz.in_ranges.Reads as reads
use Rattle.angle.proofs.from_xyz.in_ranges.Goals as goal

abbrev TheAfterIsHeight : Type 0
TheAfterIsHeight = lts.After-is_height tie.the-claims reads.Pre reads.Post

abbrev TheAfterIsLatitude : Type 0
TheAfterIsLatitude = lts.After-is_latitude tie.the-claims reads.Pre reads.Post

abbrev TheAfterWithin : Type 0
TheAfterWithin = lts.After-within tie.the-claims reads.Pre reads.Post

latitude : (c : TheAfterIsLatitude) (t : Bool) → c.is_latitude.result ≡ t → latitude_range c.args.latitude ≡ t
latitude c t h = told (pos 0) c.args.latitude (pos 2880000000) c.ranges.latitude c.is_latitude.ensures h

past : (c : TheAfterWithin) (t : Bool) → c.within.result ≡ t → within (pos 3240000000) c.args.past (pos 10800000000) ≡ t
past c t h = let a = c in told (pos 3240000000) a.args.past (pos 10800000000) a.ranges.past c.within.ensures h

longitude : (c : TheAfterWithin) (t : Bool) → c.within.result ≡ t → longitude_range (c.args.past +ℤ pos 32400000000) ≡ t
longitude c t h = moved 3240000000 10800000000 32400000000 c.args.past ∙ past c t h

height : (c : TheAfterIsHeight) (t : Bool) → c.is_height.result ≡ t → height_range c.args.height ≡ t
height c t h = let a = c in told (negsuc 49999999) a.args.height (pos 900000000) a.ranges.height c.is_height.ensures h

pub returns-then-not-is_latitude : goal.returns-then-not-is_latitude
unfolding in_ranges
returns-then-not-is_latitude c = rw (latitude c.before false (c.if-not-is_latitude.true))

pub returns-then-not-within : goal.returns-then-not-within
unfolding in_ranges
returns-then-not-within c = rw (latitude c.before.before.before true (c.if-not-is_latitude.false), longitude c.before false (c.if-not-within.true))

pub returns-then-not-is_height : goal.returns-then-not-is_height
unfolding in_ranges
returns-then-not-is_height c = rw (latitude c.before.before.before.before.before true (c.if-not-is_latitude.false), longitude c.before.before.before true (c.if-not-within.false), height c.before false (c.if-not-is_height.true))

-- the sum fits
sum_fits : (z : ℤ) → within (pos 3240000000) z (pos 10800000000) ≡ true → SFits w64 (z +ℤ pos 32400000000)
sum_fits z h =
    let p = natural 3240000000 z 10800000000 h in
    let l = p.high in
    subst (λ (y : ℤ). SFits w64 (y +ℤ pos 32400000000)) (sym p.is) (fits 43200000000 (pos p.n +ℤ pos 32400000000) tt (omega arith))

pub overflow_add-longitude : goal.overflow_add-longitude
overflow_add-longitude c =
    let a = c in
    rw (to_z-of_z w64 a.args.past a.ranges.past) (sum_fits a.args.past (past c.before.before.before true (c.if-not-within.false)))

pub returns : goal.returns
unfolding in_ranges
returns c =
    let a = c in
    let i : to_z w64 (of_z w64 a.args.latitude) ≡ a.args.latitude = to_z-of_z w64 a.args.latitude a.ranges.latitude in
    let j : to_z w64 (of_z w64 a.args.past) ≡ a.args.past = to_z-of_z w64 a.args.past a.ranges.past in
    let k : to_z w64 (of_z w64 a.args.height) ≡ a.args.height = to_z-of_z w64 a.args.height a.ranges.height in
    let m : to_z w64 (of_z w64 (a.args.past +ℤ pos 32400000000)) ≡ a.args.past +ℤ pos 32400000000 = to_z-of_z w64 (a.args.past +ℤ pos 32400000000) (sum_fits a.args.past (past c.before.before.before true (c.if-not-within.false))) in
    rw (i, j, m, k, latitude c.before.before.before.before.before true (c.if-not-is_latitude.false), longitude c.before.before.before true (c.if-not-within.false), height c.before true (c.if-not-is_height.false))
