-- `angle::faults::angles_fault` meets its contract: each return rewrites with the tests that led there. Assumes nothing.
use mathlib.Core.Path.{◌≡◌}
use mathlib.Core.Bool.{Bool, true, false}
use lib.IntN.{pos}
use Rattle.ranges.specs.Ranges.{latitude_range, longitude_range}
use Rattle.ranges.proofs.Ranges.{told}
use Rattle.angle.specs.Ranges.{angles_fault}
use Rattle.angle.proofs.faults.angles_fault.Tie as tie
use Rattle.angle.proofs.faults.angles_fault.Lts as lts
use Rattle.angle.proofs.faults.angles_fault.Reads as reads
use Rattle.angle.proofs.faults.angles_fault.Goals as goal

abbrev TheAfterIsLatitude : Type 0
TheAfterIsLatitude = lts.After-is_latitude tie.the-claims reads.Pre reads.Post

abbrev TheAfterIsLongitude : Type 0
TheAfterIsLongitude = lts.After-is_longitude tie.the-claims reads.Pre reads.Post

latitude : (c : TheAfterIsLatitude) (t : Bool) → c.is_latitude.result ≡ t → latitude_range c.args.latitude ≡ t
latitude c t h = told (pos 0) c.args.latitude (pos 2880000000) c.ranges.latitude c.is_latitude.ensures h

longitude : (c : TheAfterIsLongitude) (t : Bool) → c.is_longitude.result ≡ t → longitude_range c.args.longitude ≡ t
longitude c t h =
    told (pos 35640000000) c.args.longitude (pos 43200000000) c.ranges.longitude c.is_longitude.ensures h

pub returns-then-not-is_latitude : goal.returns-then-not-is_latitude
unfolding angles_fault
returns-then-not-is_latitude c = rw (latitude c.before false (c.if-not-is_latitude.true))

pub returns-then-not-is_longitude : goal.returns-then-not-is_longitude
unfolding angles_fault
returns-then-not-is_longitude c = rw (latitude c.before.before.before true (c.if-not-is_latitude.false), longitude c.before false (c.if-not-is_longitude.true))

pub returns : goal.returns
unfolding angles_fault
returns c = rw (latitude c.before.before.before true (c.if-not-is_latitude.false), longitude c.before true (c.if-not-is_longitude.false))
