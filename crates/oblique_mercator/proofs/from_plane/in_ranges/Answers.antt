-- `oblique_mercator::from_plane::in_ranges` meets its contract: each return rewrites with the tests that led there. Assumes nothing.
use borrow.Author.Rules.{rules}
use mathlib.Core.Path.{◌≡◌, sym, ap, ◌∙◌}
use mathlib.Core.Bool.{Bool, true}
use lib.IntN.{ℤ, pos, ◌+ℤ◌, ◌-ℤ◌}
use mir.Syntax.{w64}
use mir.Val.{SFits, to_z, of_z}
use mir.ValLaws.{to_z-of_z}
use Rattle.rounding.proofs.Machine.{of₃}
use Rattle.ranges.specs.Ranges.{within, latitude_range, longitude_range}
use Rattle.ranges.proofs.Ranges.{told}
use Rattle.oblique_mercator.specs.Reverse.{in_ranges}
use Rattle.oblique_mercator.proofs.Wholes.{apart_fits, west-end, east-end, moved, longitude-fits}
use Rattle.oblique_mercator.proofs.from_plane.in_ranges.Goals as goal

latitude : (z : ℤ) {r t : Bool} → SFits w64 z → r ≡ within (pos 0) (to_z w64 (of_z w64 z)) (pos 2880000000) → r ≡ t → latitude_range z ≡ t
latitude z f e h = told (pos 0) z (pos 2880000000) f e h

-- a centre's longitude, and each end less it, as the machine reads them
module _ (centre : ℤ) (f : SFits w64 centre) (r : longitude_range centre ≡ true) where
  read : to_z w64 (of_z w64 centre) ≡ centre
  read = to_z-of_z w64 centre f

  west-fits : SFits w64 (pos 35640000000 -ℤ centre)
  west-fits = apart_fits (pos 35640000000) centre west-end r

  east-fits : SFits w64 (pos 43200000000 -ℤ centre)
  east-fits = apart_fits (pos 43200000000) centre east-end r

  west : to_z w64 (of_z w64 (pos 35640000000 -ℤ to_z w64 (of_z w64 centre))) ≡ pos 35640000000 -ℤ centre
  west = ap (λ (z : ℤ). to_z w64 (of_z w64 (pos 35640000000 -ℤ z))) read ∙ to_z-of_z w64 (pos 35640000000 -ℤ centre) west-fits

  east : to_z w64 (of_z w64 (pos 43200000000 -ℤ to_z w64 (of_z w64 centre))) ≡ pos 43200000000 -ℤ centre
  east = ap (λ (z : ℤ). to_z w64 (of_z w64 (pos 43200000000 -ℤ z))) read ∙ to_z-of_z w64 (pos 43200000000 -ℤ centre) east-fits

  longitude : (z : ℤ) {s t : Bool} → SFits w64 z
      → s ≡ within (to_z w64 (of_z w64 (pos 35640000000 -ℤ to_z w64 (of_z w64 centre)))) (to_z w64 (of_z w64 z)) (to_z w64 (of_z w64 (pos 43200000000 -ℤ to_z w64 (of_z w64 centre))))
      → s ≡ t → longitude_range (z +ℤ centre) ≡ t
  longitude z g e h = sym (moved centre z) ∙ sym (e ∙ of₃ within west (to_z-of_z w64 z g) east) ∙ h

pub returns-then-not-is_latitude : goal.returns-then-not-is_latitude
unfolding in_ranges
returns-then-not-is_latitude c = rw (latitude c.args.latitude c.ranges.latitude c.is_latitude.ensures c.if-not-is_latitude.true)

pub overflow_sub-centre : goal.overflow_sub-centre
overflow_sub-centre c = let m = c.args.centre in let f : SFits w64 m.units = search rules in rw (read m.units f m.in_range) (west-fits m.units f m.in_range)

pub overflow_sub-centre-2 : goal.overflow_sub-centre-2
overflow_sub-centre-2 c = let m = c.args.centre in let f : SFits w64 m.units = search rules in rw (read m.units f m.in_range) (east-fits m.units f m.in_range)

pub returns-then-not-within : goal.returns-then-not-within
unfolding in_ranges
returns-then-not-within c =
    let m = c.args.centre in
    let f : SFits w64 m.units = search rules in
    rw (
      latitude c.args.latitude c.ranges.latitude c.is_latitude.ensures c.if-not-is_latitude.false,
      longitude m.units f m.in_range c.args.difference c.ranges.difference c.within.ensures c.if-not-within.true,
    )

pub overflow_add-longitude : goal.overflow_add-longitude
overflow_add-longitude c =
    let m = c.args.centre in
    let z = c.args.difference in
    let f : SFits w64 m.units = search rules in
    rw (to_z-of_z w64 z c.ranges.difference, read m.units f m.in_range)
    (longitude-fits (z +ℤ m.units) (longitude m.units f m.in_range z c.ranges.difference c.within.ensures c.if-not-within.false))

pub returns : goal.returns
unfolding in_ranges
returns c =
    let m = c.args.centre in
    let z = c.args.difference in
    let f : SFits w64 m.units = search rules in
    let l = longitude m.units f m.in_range z c.ranges.difference c.within.ensures c.if-not-within.false in
    rw (
      to_z-of_z w64 c.args.latitude c.ranges.latitude,
      to_z-of_z w64 z c.ranges.difference,
      read m.units f m.in_range,
      to_z-of_z w64 (z +ℤ m.units) (longitude-fits (z +ℤ m.units) l),
      latitude c.args.latitude c.ranges.latitude c.is_latitude.ensures c.if-not-is_latitude.false,
      l,
    )
