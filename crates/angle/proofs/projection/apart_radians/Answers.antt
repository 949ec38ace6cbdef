-- `angle::projection::apart_radians` meets its contract: longitudes that are not too far apart have a difference that is an f64 exactly. Assumes nothing.
use mathlib.Core.Path.{◌≡◌, sym, ap₂, subst}
use lib.Dec.{T, lit≤}
use lib.IntN.{ℤ, ◌-ℤ◌}
use lib.Ieee.{binary64, in_float}
use mir.Syntax.{w64}
use mir.Val.{SFits, to_z, of_z}
use mir.ValLaws.{to_z-of_z}
use Rattle.bounds.proofs.Zero.{Upto}
use Rattle.angle.specs.Units.{radians}
use Rattle.angle.proofs.Tests.{read_back}
use Rattle.angle.proofs.Wholes.{upto, in-float, fits}
use Rattle.angle.proofs.projection.apart_radians.Tie as tie
use Rattle.angle.proofs.projection.apart_radians.Lts as lts
use Rattle.angle.proofs.projection.apart_radians.Reads as reads
use Rattle.angle.proofs.projection.apart_radians.Goals as goal

abbrev TheStart : Type 0
TheStart = lts.Start tie.the-claims reads.Pre reads.Post

module _ (c : TheStart) where
  abbrev apart : ℤ
  apart = c.args.longitude -ℤ c.args.origin

  apart-upto : Upto 1440000000 apart
  apart-upto = upto 1440000000 1439999999 apart 1440000000 (lit≤ tt) (lit≤ tt) c.requires

  apart_fits : SFits w64 apart
  apart_fits = fits 1440000000 apart tt apart-upto

  apart-float : T (in_float binary64 apart)
  apart-float = in-float 1440000000 apart tt apart-upto

  -- the machine reads both longitudes back from their bits
  same : to_z w64 (of_z w64 c.args.longitude) -ℤ to_z w64 (of_z w64 c.args.origin) ≡ apart
  same = ap₂ ◌-ℤ◌ (to_z-of_z w64 c.args.longitude c.ranges.longitude) (to_z-of_z w64 c.args.origin c.ranges.origin)

pub overflow_sub-longitude : goal.overflow_sub-longitude
overflow_sub-longitude c = subst (λ (z : ℤ). SFits w64 z) (sym (same c)) (apart_fits c)

pub int_to_float-longitude : goal.int_to_float-longitude
int_to_float-longitude c =
    let a = c.before in
    subst (λ (z : ℤ). T (in_float binary64 (to_z w64 (of_z w64 z)))) (sym (same a)) (read_back (apart a) (apart_fits a) (apart-float a))

pub returns : goal.returns
unfolding radians
returns c =
    let a = c.before.before in
    let d : to_z w64 (of_z w64 a.args.longitude) -ℤ to_z w64 (of_z w64 a.args.origin) ≡ apart a = same a in
    let w : to_z w64 (of_z w64 (apart a)) ≡ apart a = to_z-of_z w64 (apart a) (apart_fits a) in
    cc
