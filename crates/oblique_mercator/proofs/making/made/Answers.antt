-- `oblique_mercator::making::made` meets its contract: the numbers are in their ranges, and each value is the written one. Assumes nothing.
use borrow.Author.Rules.{rules}
use mathlib.Core.Path.{◌≡◌, ap, ◌∙◌, subst⁻¹}
use lib.Dec.{T, lit≤}
use lib.IntN.{ℤ}
use lib.Ieee.{binary64, in_float, of_bits, round}
use mir.Syntax.{w64}
use mir.Val.{SFits, to_z, of_z}
use mir.ValLaws.{to_z-of_z}
use Rattle.rounding.proofs.Machine.{told}
use Rattle.ranges.proofs.Ranges.{natural}
use Rattle.angle.proofs.UnitLaws.{radians-is, metres-is}
use Rattle.angle.proofs.Tests.{read_back}
use Rattle.angle.proofs.Wholes.{natural-upto, upto, in-float}
use Rattle.oblique_mercator.specs.Parameters.{reduced}
use Rattle.oblique_mercator.specs.Projection.{projection_made}
use Rattle.oblique_mercator.proofs.Wholes.{Ranged, ranged, reduced-between, reduced-fits, floats}
use Rattle.oblique_mercator.proofs.making.made.Tie as tie
use Rattle.oblique_mercator.proofs.making.made.Lts as lts
use Rattle.oblique_mercator.proofs.making.made.Reads as reads
use Rattle.oblique_mercator.proofs.making.made.Goals as goal

abbrev TheStart : Type 0
TheStart = lts.Start tie.the-claims reads.Pre reads.Post

module _ (c : TheStart) where
  all : Ranged c.args.p
  all = ranged c.args.p c.requires

  latitude : T (in_float binary64 c.args.p.latitude)
  latitude = in-float 2880000000 c.args.p.latitude tt (natural-upto (natural 360000000 c.args.p.latitude 2880000000 all.latitude))

  scale : T (in_float binary64 c.args.p.scale)
  scale = in-float 101000000000 c.args.p.scale tt (natural-upto (natural 99000000000 c.args.p.scale 101000000000 all.scale))

  azimuth : T (in_float binary64 (reduced c.args.p.azimuth))
  azimuth = floats 21600000000 (reduced c.args.p.azimuth) tt (reduced-between c.args.p.azimuth all.azimuth).high

  rectified : T (in_float binary64 (reduced c.args.p.rectified))
  rectified = floats 21600000000 (reduced c.args.p.rectified) tt (reduced-between c.args.p.rectified all.rectified).high

  easting : T (in_float binary64 c.args.p.false_easting)
  easting = in-float 2000000000 c.args.p.false_easting tt (upto 2000000000 1999999999 c.args.p.false_easting 2000000000 (lit≤ tt) (lit≤ tt) all.easting)

  northing : T (in_float binary64 c.args.p.false_northing)
  northing = in-float 2000000000 c.args.p.false_northing tt (upto 2000000000 1999999999 c.args.p.false_northing 2000000000 (lit≤ tt) (lit≤ tt) all.northing)

pub int_to_float-p : goal.int_to_float-p
int_to_float-p c =
    let a = c.before.before.before.before.before in
    let f : SFits w64 a.args.p.latitude = search rules in
    read_back a.args.p.latitude f (latitude a)

pub int_to_float-p-2 : goal.int_to_float-p-2
int_to_float-p-2 c =
    let a = c.before.before.before.before.before.before.before.before in
    let f : SFits w64 a.args.p.scale = search rules in
    read_back a.args.p.scale f (scale a)

pub int_to_float-reduced : goal.int_to_float-reduced
int_to_float-reduced c =
    let a = c.before.before.before.before.before.before.before.before.before.before.before.before in
    let f : SFits w64 a.args.p.azimuth = search rules in
    let e = c.reduced.ensures ∙ ap reduced (to_z-of_z w64 a.args.p.azimuth f) in
    subst⁻¹ (λ (z : ℤ). T (in_float binary64 (to_z w64 (of_z w64 z)))) e (read_back (reduced a.args.p.azimuth) (reduced-fits a.args.p.azimuth (all a).azimuth) (azimuth a))

pub int_to_float-reduced-2 : goal.int_to_float-reduced-2
int_to_float-reduced-2 c =
    let a = c.before.before.before.before.before.before.before.before.before.before.before.before.before.before.before.before.before in
    let f : SFits w64 a.args.p.rectified = search rules in
    let e = c.reduced-2.ensures ∙ ap reduced (to_z-of_z w64 a.args.p.rectified f) in
    subst⁻¹ (λ (z : ℤ). T (in_float binary64 (to_z w64 (of_z w64 z)))) e (read_back (reduced a.args.p.rectified) (reduced-fits a.args.p.rectified (all a).rectified) (rectified a))

pub int_to_float-result : goal.int_to_float-result
int_to_float-result c =
    let a = c.before.before.before.before.before.before.before.before.before.before.before.before.before.before.before.before.before.before.before.before.before.before.before.before.before in
    let f : SFits w64 a.args.p.false_easting = search rules in
    read_back a.args.p.false_easting f (easting a)

pub int_to_float-result-2 : goal.int_to_float-result-2
int_to_float-result-2 c =
    let a = c.before.before.before.before.before.before.before.before.before.before.before.before.before.before.before.before.before.before.before.before.before.before.before.before.before.before.before in
    let f : SFits w64 a.args.p.false_northing = search rules in
    read_back a.args.p.false_northing f (northing a)

pub returns : goal.returns
unfolding projection_made round of_bits
returns c =
    let a = c.before.before.before.before.before.before.before.before.before.before.before.before.before.before.before.before.before.before.before.before.before.before.before.before.before.before.before in
    let o = a.args.p in
    let t = c.struct_told-1.given in
    let e0 : to_z w64 (of_z w64 o.ellipsoid) ≡ o.ellipsoid = told t.0.1 in
    let e1 : to_z w64 (of_z w64 o.latitude) ≡ o.latitude = told t.1.0.1 in
    let e2 : to_z w64 (of_z w64 o.longitude) ≡ o.longitude = told t.1.1.0.1 in
    let e3 : to_z w64 (of_z w64 o.azimuth) ≡ o.azimuth = told t.1.1.1.0.1 in
    let e4 : to_z w64 (of_z w64 o.rectified) ≡ o.rectified = told t.1.1.1.1.0.1 in
    let e5 : to_z w64 (of_z w64 o.scale) ≡ o.scale = told t.1.1.1.1.1.0.1 in
    let e6 : to_z w64 (of_z w64 o.false_easting) ≡ o.false_easting = told t.1.1.1.1.1.1.0.1 in
    let e7 : to_z w64 (of_z w64 o.false_northing) ≡ o.false_northing = told t.1.1.1.1.1.1.1.0.1 in
    rw (c.cosine.ensures, c.sine.ensures, c.series_of-k.ensures, c.radians-gamma.ensures, c.reduced-2.ensures, c.natural_at-o.ensures, c.radians-2.ensures, c.reduced.ensures, c.centre_at-c.ensures, c.radians.ensures, c.ellipsoid-e.ensures)
    (rw (e0, e1, e2, e3, e4, e5, e6, e7, to_z-of_z w64 (reduced o.azimuth) (reduced-fits o.azimuth (all a).azimuth), to_z-of_z w64 (reduced o.rectified) (reduced-fits o.rectified (all a).rectified))
    (rw (radians-is o.latitude, radians-is (reduced o.azimuth), radians-is (reduced o.rectified), metres-is o.false_easting, metres-is o.false_northing)))
