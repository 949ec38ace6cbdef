-- `angle::projection::meridian_fault` meets its contract: each return has the tests that led there. Assumes nothing.
use borrow.Author.Tests.{not-false}
use mathlib.Core.Path.{◌≡◌, sym, ap, ◌∙◌, subst}
use mathlib.Core.Bool.{Bool, true, false, not}
use mathlib.Core.List.{List, [], ◌∷◌, ◌++◌}
use Prim.Native.Nat.{◌+◌, ◌-◌}
use native.Mathlib.Omega.{arith}
use lib.IntN.{ℤ, pos, ◌-ℤ◌, ◌+ℤ◌}
use mir.Syntax.{w64}
use mir.Val.{SFits, to_z, of_z}
use mir.ValLaws.{to_z-of_z}
use Rattle.refusal.specs.Order.{Test, ◌gives◌, first}
use Rattle.refusal.specs.Numbers as numbers
use Rattle.refusal.specs.Refusals.{number}
use Rattle.refusal.proofs.Refusals.{not-none}
use Rattle.refusal.proofs.Orders.{Passed, stop, on}
use Rattle.ranges.specs.Ranges.{within, longitude_range}
use Rattle.ranges.proofs.Ranges.{Natural, natural}
use Rattle.angle.specs.Ranges.{nearby, angle_tests}
use Rattle.angle.proofs.Exits.{fault_is}
use Rattle.angle.proofs.NoFault.{angles-read, angles-passed}
use Rattle.angle.proofs.Wholes.{fits, sub-pos, apart-is}
use Rattle.angle.proofs.projection.meridian_fault.Goals as goal

-- the angles' tests are ahead, and then how far apart the longitudes are
abbrev after : ℤ → ℤ → List Test
after lon o = (not (nearby lon o) gives numbers.apart) ∷ []

pub returns-in_err-angles_fault : goal.returns-in_err-angles_fault
returns-in_err-angles_fault c =
    let a = c.args in
    let r = c.in_err-angles_fault.field-0.0 in
    let e : number r ≡ first (angle_tests a.latitude a.longitude) = c.in_err-angles_fault.ensures ∙ angles-read a.latitude a.longitude c.ranges.latitude c.ranges.longitude in
    fault_is c.from_residual.result r c.from_residual.ensures.1 ∙ e
    ∙ sym (stop (angle_tests a.latitude a.longitude) (after a.longitude a.origin) (λ (z : first (angle_tests a.latitude a.longitude) ≡ 0). not-none r (e ∙ z)))

-- 4 degrees to either side of a longitude
module _ (lon : ℤ) (f : SFits w64 lon) (r : longitude_range lon ≡ true) where
  longitude : Natural 35640000000 lon 43200000000
  longitude = natural 35640000000 lon 43200000000 r

  is : to_z w64 (of_z w64 lon) ≡ pos longitude.n
  is = to_z-of_z w64 lon f ∙ longitude.is

  west : to_z w64 (of_z w64 lon) -ℤ pos 1440000000 ≡ pos (longitude.n - 1440000000)
  west = let l = longitude.low in ap (λ (z : ℤ). z -ℤ pos 1440000000) is ∙ sub-pos longitude.n 1440000000 (omega arith)

  east : to_z w64 (of_z w64 lon) +ℤ pos 1440000000 ≡ pos (longitude.n + 1440000000)
  east = ap (λ (z : ℤ). z +ℤ pos 1440000000) is

  west_fits : SFits w64 (to_z w64 (of_z w64 lon) -ℤ pos 1440000000)
  west_fits = let h = longitude.high in subst (λ (z : ℤ). SFits w64 z) (sym west) (fits 50000000000 (pos (longitude.n - 1440000000)) tt (omega arith))

  east_fits : SFits w64 (to_z w64 (of_z w64 lon) +ℤ pos 1440000000)
  east_fits = let h = longitude.high in subst (λ (z : ℤ). SFits w64 z) (sym east) (fits 50000000000 (pos (longitude.n + 1440000000)) tt (omega arith))

  -- what the code tests by them is whether another is near
  near_is : (o : ℤ) → SFits w64 o
      → within (to_z w64 (of_z w64 (to_z w64 (of_z w64 lon) -ℤ pos 1440000000))) (to_z w64 (of_z w64 o)) (to_z w64 (of_z w64 (to_z w64 (of_z w64 lon) +ℤ pos 1440000000)))
      ≡ nearby lon o
  near_is o g =
      let l = longitude.low in
      rw (to_z-of_z w64 _ west_fits, to_z-of_z w64 _ east_fits, to_z-of_z w64 o g, west, east) (apart-is longitude.n o (omega arith) ∙ ap (λ (z : ℤ). nearby z o) (sym longitude.is))

pub overflow_sub-longitude : goal.overflow_sub-longitude
overflow_sub-longitude c =
    let p = angles-passed c.args.latitude c.args.longitude c.ranges.latitude c.ranges.longitude c.in_ok-angles_fault.ensures in
    west_fits c.args.longitude c.ranges.longitude (not-false _ p.1.0)

pub overflow_add-longitude : goal.overflow_add-longitude
overflow_add-longitude c =
    let p = angles-passed c.args.latitude c.args.longitude c.ranges.latitude c.ranges.longitude c.in_ok-angles_fault.ensures in
    east_fits c.args.longitude c.ranges.longitude (not-false _ p.1.0)

-- what the second test decides
decided : (lat lon o : ℤ) (t : Bool) → Passed (angle_tests lat lon) → nearby lon o ≡ t
    → first ((not t gives numbers.apart) ∷ []) ≡ first (angle_tests lat lon ++ after lon o)
decided lat lon o t p e = sym (on (angle_tests lat lon) (after lon o) p ∙ ap (λ (t : Bool). first ((not t gives numbers.apart) ∷ [])) e)

pub returns-then-not-within : goal.returns-then-not-within
returns-then-not-within c =
    let a = c.args in
    let p = angles-passed a.latitude a.longitude c.ranges.latitude c.ranges.longitude c.in_ok-angles_fault.ensures in
    decided a.latitude a.longitude a.origin false p
    (sym (near_is a.longitude c.ranges.longitude (not-false _ p.1.0) a.origin c.ranges.origin) ∙ sym c.within.ensures ∙ c.if-not-within.true)

pub returns : goal.returns
returns c =
    let a = c.args in
    let p = angles-passed a.latitude a.longitude c.ranges.latitude c.ranges.longitude c.in_ok-angles_fault.ensures in
    decided a.latitude a.longitude a.origin true p
    (sym (near_is a.longitude c.ranges.longitude (not-false _ p.1.0) a.origin c.ranges.origin) ∙ sym c.within.ensures ∙ c.if-not-within.false)
