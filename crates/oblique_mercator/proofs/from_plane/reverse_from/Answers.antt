-- `oblique_mercator::from_plane::reverse_from` meets its contract: each return has the tests that led there. Assumes nothing.
use borrow.Author.Rules.{rules}
use mathlib.Core.Path.{◌≡◌, sym, ap, ap₂, ◌∙◌}
use mathlib.Core.Bool.{Bool, ◌&&◌}
use lib.IntN.{ℤ, pos}
use mir.Syntax.{w64}
use mir.Val.{SFits, to_z, of_z}
use mir.ValLaws.{to_z-of_z}
use Rattle.ranges.specs.Ranges.{within, longitude_range}
use Rattle.ranges.proofs.Ranges.{told}
use Rattle.oblique_mercator.specs.Reverse.{gate_of, reverse_at, reverse_from_of}
use Rattle.oblique_mercator.proofs.from_plane.reverse_from.Goals as goal

centre : (z : ℤ) {r t : Bool} → SFits w64 z → r ≡ within (pos 35640000000) (to_z w64 (of_z w64 z)) (pos 43200000000) → r ≡ t → longitude_range z ≡ t
centre z f e h = told (pos 35640000000) z (pos 43200000000) f e h

pub returns-then-not-is_longitude : goal.returns-then-not-is_longitude
unfolding reverse_from_of
returns-then-not-is_longitude c = rw (centre c.args.p.centre (search rules) c.is_longitude.ensures c.if-not-is_longitude.true)

pub returns-then-not-in_plane : goal.returns-then-not-in_plane
unfolding reverse_from_of
returns-then-not-in_plane c =
    let e = sym (ap₂ ◌&&◌ c.in_plane.ensures c.in_plane-2.ensures) ∙ c.if-not-in_plane.true in
    rw (centre c.args.p.centre (search rules) c.is_longitude.ensures c.if-not-is_longitude.false, e)

pub returns-then-not-gate : goal.returns-then-not-gate
unfolding reverse_from_of reverse_at
returns-then-not-gate c =
    let e = sym (ap₂ ◌&&◌ c.in_plane.ensures c.in_plane-2.ensures) ∙ c.if-not-in_plane.false in
    let g = sym (c.gate.ensures ∙ ap gate_of c.turn-t.ensures) ∙ c.if-not-gate.true in
    rw (centre c.args.p.centre (search rules) c.is_longitude.ensures c.if-not-is_longitude.false, e, g)

pub returns : goal.returns
unfolding reverse_from_of reverse_at
returns c =
    let f : SFits w64 c.args.p.centre = search rules in
    let e = sym (ap₂ ◌&&◌ c.in_plane.ensures c.in_plane-2.ensures) ∙ c.if-not-in_plane.false in
    let g = sym (c.gate.ensures ∙ ap gate_of c.turn-t.ensures) ∙ c.if-not-gate.false in
    let i = to_z-of_z w64 c.args.p.centre f in
    rw (centre c.args.p.centre (search rules) c.is_longitude.ensures c.if-not-is_longitude.false, e, g) (cc (c.in_units.ensures, c.find.ensures, c.turn-t.ensures, i))
