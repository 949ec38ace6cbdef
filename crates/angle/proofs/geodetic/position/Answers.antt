-- `angle::geodetic::position` meets its contract: the numbers are f64s exactly, and the formulas are the printed ones. Assumes nothing.
use mathlib.Core.Path.{◌≡◌}
use lib.Dec.{T, lit≤}
use lib.IntN.{pos, ◌-ℤ◌}
use lib.Ieee.{binary64, in_float, of_bits, round}
use mir.Syntax.{w64}
use mir.Val.{SFits, to_z, of_z}
use mir.ValLaws.{to_z-of_z}
use Rattle.angle.specs.Units.{radians}
use Rattle.angle.specs.Cartesian.{cartesian_at}
use Rattle.angle.proofs.Tests.{read_back}
use Rattle.angle.proofs.Past as past
use Rattle.ranges.proofs.Ranges.{natural}
use Rattle.angle.proofs.Wholes.{upto, in-float, widened}
use Rattle.angle.proofs.geodetic.position.Tie as tie
use Rattle.angle.proofs.geodetic.position.Lts as lts
use Rattle.angle.proofs.geodetic.position.Reads as reads
use Rattle.angle.proofs.geodetic.position.Goals as goal

abbrev TheStart : Type 0
TheStart = lts.Start tie.the-claims reads.Pre reads.Post

module _ (c : TheStart) where
  -- what is past 90 degrees
  past_fits : SFits w64 (c.args.longitude -ℤ pos 32400000000)
  past_fits = past.past_fits c.args.longitude c.requires.1

  -- the machine reads the numbers back from their bits
  lat : to_z w64 (of_z w64 c.args.latitude) ≡ c.args.latitude
  lat = to_z-of_z w64 c.args.latitude c.ranges.latitude

  lon : to_z w64 (of_z w64 c.args.longitude) ≡ c.args.longitude
  lon = to_z-of_z w64 c.args.longitude c.ranges.longitude

  w : to_z w64 (of_z w64 (c.args.longitude -ℤ pos 32400000000)) ≡ c.args.longitude -ℤ pos 32400000000
  w = to_z-of_z w64 (c.args.longitude -ℤ pos 32400000000) past_fits

  height : T (in_float binary64 c.args.height)
  height = in-float 900000000 c.args.height tt (upto 900000000 49999999 c.args.height 900000000 (lit≤ tt) (lit≤ tt) c.requires.2)

pub whole-requires : goal.whole-requires
whole-requires c = rw (lat c) (widened 4503599627370495 (natural 0 c.args.latitude 2880000000 c.requires.0) (lit≤ tt))

pub overflow_sub-longitude : goal.overflow_sub-longitude
overflow_sub-longitude c = rw (lon c.before.before) (past_fits c.before.before)

pub whole-requires-2 : goal.whole-requires-2
whole-requires-2 c = let a = c.before.before in rw (lon a, w a) (past.past-small a.args.longitude a.requires.1)

pub int_to_float-h : goal.int_to_float-h
int_to_float-h c =
    let a = c.before.before.before.before.before.before.before.before in
    read_back a.args.height a.ranges.height (height a)

pub returns : goal.returns
unfolding cartesian_at radians round of_bits
returns c =
    let a = c.before.before.before.before.before.before.before.before.before.before.before in
    let h : to_z w64 (of_z w64 a.args.height) ≡ a.args.height = to_z-of_z w64 a.args.height a.ranges.height in
    rw (
      c.prime_vertical-nu.ensures,
      c.cosine-cos_phi.ensures,
      c.sine-sin_phi.ensures,
      c.cosine-sin_l.ensures,
      c.sine-cos_l.ensures,
      c.radians-w.ensures,
      c.whole-2.ensures,
      c.radians-phi.ensures,
      c.whole.ensures,
      lat a,
      lon a,
      w a,
      h,
    )
