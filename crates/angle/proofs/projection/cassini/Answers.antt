-- `angle::projection::cassini` meets its contract: the origin's faults decide, then the point's, and then the formulas. Assumes nothing.
use borrow.Author.Rules.{rules}
use mathlib.Core.Path.{◌≡◌, sym, ap, ap₂, ◌∙◌}
use Prim.Native.Nat.{ℕ}
use lib.IntN.{ℤ}
use mir.Syntax.{w64}
use mir.Val.{SFits, to_z, of_z}
use mir.ValLaws.{to_z-of_z}
use Rattle.std.specs.Prelude.{Result, Ok, Err}
use Rattle.refusal.specs.Order.{first, unless}
use Rattle.refusal.specs.Refusals.{number}
use Rattle.refusal.specs.declared.Refusal.{Refusal}
use Rattle.refusal.proofs.Orders.{passed, stop, on, unless-none}
use Rattle.refusal.proofs.Refusals.{not-none, unless-number}
use Rattle.angle.specs.Ranges.{origin_tests, angles_and_meridian_tests, origin_fault}
use Rattle.angle.specs.Ellipsoids.{ellipsoid_of}
use Rattle.angle.specs.Cassini.{origin_made, cassini_at, cassini_of}
use Rattle.angle.specs.declared.OriginNumbers.{OriginNumbers}
use Rattle.angle.specs.declared.Origin.{Origin}
use Rattle.angle.specs.declared.Projected.{Projected}
use Rattle.angle.proofs.Exits.{told-is, refused}
use Rattle.angle.proofs.NoFault.{origin-latitude, point-near, point-read}
use Rattle.angle.proofs.projection.cassini.Goals as goal

-- ---- the answer by the faults
module _ (o : OriginNumbers) (lat lon : ℤ) where
  abbrev fault : ℕ
  fault = first (angles_and_meridian_tests o.longitude lat lon)

  abbrev laid : Result Projected ℕ
  laid = Ok (cassini_at (origin_made o) lat lon)

  by-origin : (e : Refusal) → number e ≡ origin_fault o → Err (number e) ≡ cassini_of o lat lon
  unfolding cassini_of origin_fault
  by-origin e h =
      sym (unless-number e (first (origin_tests o)) Err laid h)
      ∙ ap (λ (f : ℕ). unless f Err laid) (sym (stop (origin_tests o) (angles_and_meridian_tests o.longitude lat lon) (λ (z : first (origin_tests o) ≡ 0). not-none e (h ∙ z))))

  -- where the origin has no fault the point decides
  by-point : origin_fault o ≡ 0 → unless fault Err laid ≡ cassini_of o lat lon
  unfolding cassini_of origin_fault
  by-point h = ap (λ (f : ℕ). unless f Err laid) (sym (on (origin_tests o) (angles_and_meridian_tests o.longitude lat lon) (passed (origin_tests o) tt h)))

pub returns-in_err-origin_fault : goal.returns-in_err-origin_fault
returns-in_err-origin_fault c =
    let a = c.args in
    let e = c.in_err-origin_fault.field-0.0 in
    told-is c.from_residual.result e c.from_residual.ensures.1 ∙ by-origin a.o a.latitude a.longitude e c.in_err-origin_fault.ensures

pub returns-in_err-meridian_fault : goal.returns-in_err-meridian_fault
returns-in_err-meridian_fault c =
    let a = c.args in
    let f : SFits w64 a.o.longitude = search rules in
    refused c.from_residual-in_err-meridian_fault.result _ (fault a.o a.latitude a.longitude) (laid a.o a.latitude a.longitude) c.from_residual-in_err-meridian_fault.ensures.1
    (c.in_err-meridian_fault.ensures ∙ point-read a.o.longitude a.latitude a.longitude f c.ranges.latitude c.ranges.longitude)
    ∙ by-point a.o a.latitude a.longitude (sym c.in_ok-origin_fault.ensures)

pub invariant_of-origin_latitude : goal.invariant_of-origin_latitude
invariant_of-origin_latitude c =
    let o = c.args.o in
    let f : SFits w64 o.latitude = search rules in
    let s = c.in_ok-origin_fault.ensures in
    rw (to_z-of_z w64 o.latitude f) (record { in_range = origin-latitude o (sym s) })

pub project-requires : goal.project-requires
unfolding origin_made
project-requires c =
    let a = c.args in
    let f : SFits w64 a.o.longitude = search rules in
    let g : SFits w64 a.o.ellipsoid = search rules in
    let near = point-near a.o.longitude a.latitude a.longitude (sym (c.in_ok-meridian_fault.ensures ∙ point-read a.o.longitude a.latitude a.longitude f c.ranges.latitude c.ranges.longitude)) in
    rw (c.made.ensures, to_z-of_z w64 a.longitude c.ranges.longitude) (c.known_of-known.ensures ∙ ap ellipsoid_of (to_z-of_z w64 a.o.ellipsoid g), near.1)

pub returns : goal.returns
returns c =
    let a = c.args in
    let f : SFits w64 a.o.longitude = search rules in
    let none = sym (c.in_ok-meridian_fault.ensures ∙ point-read a.o.longitude a.latitude a.longitude f c.ranges.latitude c.ranges.longitude) in
    ap Ok
    (c.project.ensures ∙ ap (λ (o : Origin). cassini_at o (to_z w64 (of_z w64 a.latitude)) (to_z w64 (of_z w64 a.longitude))) c.made.ensures
    ∙ ap₂ (cassini_at (origin_made a.o)) (to_z-of_z w64 a.latitude c.ranges.latitude) (to_z-of_z w64 a.longitude c.ranges.longitude))
    ∙ sym (unless-none (fault a.o a.latitude a.longitude) Err (laid a.o a.latitude a.longitude) none)
    ∙ by-point a.o a.latitude a.longitude (sym c.in_ok-origin_fault.ensures)
