-- `oblique_mercator::to_plane::project` meets its contract: the numbers are f64s exactly. Assumes nothing.
use borrow.Author.Rules.{rules}
use mathlib.Core.Path.{◌≡◌, sym, ap₂, subst}
use lib.Dec.{T}
use lib.IntN.{ℤ, ◌-ℤ◌}
use lib.Ieee.{binary64, in_float}
use mir.Syntax.{w64}
use mir.Val.{SFits, to_z, of_z}
use mir.ValLaws.{to_z-of_z}
use Rattle.ranges.proofs.Ranges.{natural}
use Rattle.angle.proofs.UnitLaws.{radians-is}
use Rattle.angle.proofs.Tests.{read_back}
use Rattle.angle.proofs.Wholes.{natural-upto, in-float}
use Rattle.oblique_mercator.specs.Forward.{plane_at}
use Rattle.oblique_mercator.proofs.Wholes.{floats, apart, apart_fits}
use Rattle.oblique_mercator.proofs.to_plane.project.Tie as tie
use Rattle.oblique_mercator.proofs.to_plane.project.Lts as lts
use Rattle.oblique_mercator.proofs.to_plane.project.Reads as reads
use Rattle.oblique_mercator.proofs.to_plane.project.Goals as goal

abbrev TheStart : Type 0
TheStart = lts.Start tie.the-claims reads.Pre reads.Post

module _ (c : TheStart) where
  latitude : T (in_float binary64 c.args.latitude)
  latitude = in-float 2880000000 c.args.latitude tt (natural-upto (natural 0 c.args.latitude 2880000000 c.requires.0))

  abbrev difference : ℤ
  difference = c.args.longitude -ℤ c.args.p.centre

  difference-fits : SFits w64 difference
  difference-fits = apart_fits c.args.longitude c.args.p.centre c.requires.1 c.requires.2

  difference-float : T (in_float binary64 difference)
  difference-float = floats 7560000000 difference tt (apart c.args.longitude c.args.p.centre c.requires.1 c.requires.2)

  -- the machine reads both longitudes back from their bits
  same : SFits w64 c.args.p.centre → to_z w64 (of_z w64 c.args.longitude) -ℤ to_z w64 (of_z w64 c.args.p.centre) ≡ difference
  same f = ap₂ ◌-ℤ◌ (to_z-of_z w64 c.args.longitude c.ranges.longitude) (to_z-of_z w64 c.args.p.centre f)

pub int_to_float-latitude : goal.int_to_float-latitude
int_to_float-latitude c = let a = c.before.before in read_back a.args.latitude a.ranges.latitude (latitude a)

pub overflow_sub-longitude : goal.overflow_sub-longitude
overflow_sub-longitude c =
    let a = c.before.before.before.before.before in
    let f : SFits w64 a.args.p.centre = search rules in
    subst (λ (z : ℤ). SFits w64 z) (sym (same a f)) (difference-fits a)

pub int_to_float-longitude : goal.int_to_float-longitude
int_to_float-longitude c =
    let a = c.before.before.before.before.before.before in
    let f : SFits w64 a.args.p.centre = search rules in
    subst (λ (z : ℤ). T (in_float binary64 (to_z w64 (of_z w64 z)))) (sym (same a f)) (read_back (difference a) (difference-fits a) (difference-float a))

pub returns : goal.returns
unfolding plane_at
returns c =
    let a = c.before.before.before.before.before.before.before in
    let f : SFits w64 a.args.p.centre = search rules in
    let lat : to_z w64 (of_z w64 a.args.latitude) ≡ a.args.latitude = to_z-of_z w64 a.args.latitude a.ranges.latitude in
    let d : to_z w64 (of_z w64 a.args.longitude) -ℤ to_z w64 (of_z w64 a.args.p.centre) ≡ difference a = same a f in
    let w : to_z w64 (of_z w64 (difference a)) ≡ difference a = to_z-of_z w64 (difference a) (difference-fits a) in
    cc (radians-is a.args.latitude, radians-is (difference a))
