-- `velocity_grid::turn::turn` meets its contract: the numbers are f64s exactly, and the order is the printed one. Assumes nothing.
use borrow.Author.Rules.{rules}
use mathlib.Core.Path.{◌≡◌}
use Prim.Native.Nat.{◌≤◌}
use lib.Dec.{T}
use lib.Ieee.{binary64, in_float, of_bits, round}
use lib.IntN.{ℤ, pos, nat_abs, ◌-ℤ◌}
use mir.Syntax.{w64}
use mir.Val.{SFits, to_z, of_z}
use mir.ValLaws.{to_z-of_z}
use Rattle.ranges.proofs.Ranges.{natural}
use Rattle.angle.proofs.Tests.{read_back}
use Rattle.angle.proofs.Past as past
use Rattle.angle.proofs.Wholes.{natural-upto, in-float, fits}
use Rattle.angle.proofs.UnitLaws.{radians-is}
use Rattle.velocity_grid.specs.Turn.{turned_at}
use Rattle.velocity_grid.proofs.AtPoint.{sized-upto}
use Rattle.velocity_grid.proofs.turn.turn.Tie as tie
use Rattle.velocity_grid.proofs.turn.turn.Lts as lts
use Rattle.velocity_grid.proofs.turn.turn.Reads as reads
use Rattle.velocity_grid.proofs.turn.turn.Goals as goal

abbrev TheAfterStructKnown : Type 0
TheAfterStructKnown = lts.After-struct_known tie.the-claims reads.Pre reads.Post

abbrev TheStart : Type 0
TheStart = lts.Start tie.the-claims reads.Pre reads.Post

-- a part is an f64 exactly, and fits an i64
part-float : (z : ℤ) → nat_abs z ≤ 2500 → T (in_float binary64 z)
part-float z h = in-float 2500 z tt (sized-upto 2500 z h)

part-fits : (z : ℤ) → nat_abs z ≤ 2500 → SFits w64 z
part-fits z h = fits 2500 z tt (sized-upto 2500 z h)

module _ (c : TheStart) where
  latitude : T (in_float binary64 c.args.latitude)
  latitude = in-float 2880000000 c.args.latitude tt (natural-upto (natural 0 c.args.latitude 2880000000 c.requires.1))

  -- what is past 90 degrees
  past_fits : SFits w64 (c.args.longitude -ℤ pos 32400000000)
  past_fits = past.past_fits c.args.longitude c.requires.2

  -- the machine reads the longitude back from its bits
  same : to_z w64 (of_z w64 c.args.longitude) ≡ c.args.longitude
  same = to_z-of_z w64 c.args.longitude c.ranges.longitude

pub int_to_float-latitude : goal.int_to_float-latitude
int_to_float-latitude c = read_back c.args.latitude c.ranges.latitude (latitude c.before.before)

pub overflow_sub-longitude : goal.overflow_sub-longitude
overflow_sub-longitude c = rw (same c.before.before.before) (past_fits c.before.before.before)

pub int_to_float-longitude : goal.int_to_float-longitude
int_to_float-longitude c = let a = c.before.before.before.before in rw (same a) (read_back _ (past_fits a) (past.past-float a.args.longitude a.requires.2))

abbrev start : TheAfterStructKnown → TheStart
start c = c.before.before.before.before.before.before.before.before.before

pub int_to_float-p : goal.int_to_float-p
int_to_float-p c = let a = start c.before.before in read_back a.args.p.east (part-fits a.args.p.east a.requires.0.east) (part-float a.args.p.east a.requires.0.east)

pub int_to_float-p-2 : goal.int_to_float-p-2
int_to_float-p-2 c =
    let a = start c.before.before.before.before in
    read_back a.args.p.north (part-fits a.args.p.north a.requires.0.north) (part-float a.args.p.north a.requires.0.north)

pub int_to_float-p-3 : goal.int_to_float-p-3
int_to_float-p-3 c =
    let a = start c.before.before.before.before.before.before in
    read_back a.args.p.up (part-fits a.args.p.up a.requires.0.up) (part-float a.args.p.up a.requires.0.up)

pub returns : goal.returns
unfolding turned_at round of_bits
returns c =
    let a = start c.before.before.before.before.before.before in
    let lat : to_z w64 (of_z w64 a.args.latitude) ≡ a.args.latitude = to_z-of_z w64 a.args.latitude a.ranges.latitude in
    let lon : to_z w64 (of_z w64 a.args.longitude) ≡ a.args.longitude = same a in
    let w : to_z w64 (of_z w64 (a.args.longitude -ℤ pos 32400000000)) ≡ a.args.longitude -ℤ pos 32400000000 = to_z-of_z w64 (a.args.longitude -ℤ pos 32400000000) (past_fits a) in
    let e : to_z w64 (of_z w64 a.args.p.east) ≡ a.args.p.east = to_z-of_z w64 a.args.p.east (part-fits a.args.p.east a.requires.0.east) in
    let n : to_z w64 (of_z w64 a.args.p.north) ≡ a.args.p.north = to_z-of_z w64 a.args.p.north (part-fits a.args.p.north a.requires.0.north) in
    let u : to_z w64 (of_z w64 a.args.p.up) ≡ a.args.p.up = to_z-of_z w64 a.args.p.up (part-fits a.args.p.up a.requires.0.up) in
    cc (radians-is a.args.latitude, radians-is (a.args.longitude -ℤ pos 32400000000))
