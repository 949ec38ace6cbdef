-- What the Cassini call in whole millimetres can answer: numbers of at most 10,000,000,000 mm, or a number of the refusal table; and the faults of angles and
-- origins are such numbers. Assumes nothing.
use Prim.Native.Nat.{ℕ, zero, suc, ◌≤◌, ◌<◌}
use lib.IntN.{ℤ, nat_abs}
use lib.Ieee.{Float}
use Rattle.std.specs.Prelude.{Result, Ok, Err}
use Rattle.refusal.specs.Order.{first, unless}
use Rattle.refusal.proofs.Orders.{first_short}
use Rattle.rounding.specs.Decimals.{Rounded, rounded_of}
use Rattle.rounding.proofs.Places as places
use Rattle.angle.specs.Ranges.{angle_tests, origin_tests, angles_fault, origin_fault, cassini_tests}
use Rattle.angle.specs.Cassini.{origin_made, cassini_with, cassini_at, cassini_of, two, in_millimetres, cassini_millimetres_of}
use Rattle.angle.specs.declared.OriginNumbers.{OriginNumbers}
use Rattle.angle.specs.declared.Projected.{Projected}
use Rattle.angle.specs.declared.Millimetres.{Millimetres}

-- no fault has a number of three digits
pub angles-fault-short : (lat lon : ℤ) → angles_fault lat lon < 100
unfolding angles_fault
angles-fault-short lat lon = first_short (angle_tests lat lon) tt

pub origin-fault-short : (o : OriginNumbers) → origin_fault o < 100
unfolding origin_fault
origin-fault-short o = first_short (origin_tests o) tt

-- whatever holds of both holds of what is answered
pub outcome : (o : OriginNumbers) (lat lon : ℤ) (P : Result Millimetres ℕ → Type 0)
    → ((e n : ℤ) → nat_abs e ≤ 10000000000 → nat_abs n ≤ 10000000000 → P (Ok (record { easting = e; northing = n }))) → ((n : ℕ) → n < 100 → P (Err n)) → P (cassini_millimetres_of o lat lon)
unfolding cassini_millimetres_of cassini_of cassini_at cassini_with in_millimetres
outcome o lat lon P M R = go (first (cassini_tests o lat lon)) (first_short (cassini_tests o lat lon) tt)
  where
    northing : (e : ℤ) → nat_abs e ≤ 10000000000 → (y : Float) → P (two (Ok e) (rounded_of y 3))
    northing e h y = places.outcome y 3 (λ (r : Rounded). P (two (Ok e) r)) (λ n k. M e n h k) R

    rounded : (p : Projected) → P (in_millimetres (Ok p))
    rounded p = places.outcome p.easting 3 (λ (r : Rounded). P (two r (rounded_of p.northing 3))) (λ e h. northing e h p.northing) R

    go : (k : ℕ) → k < 100 → P (in_millimetres (unless k Err (Ok (cassini_at (origin_made o) lat lon))))
    go zero l = rounded _
    go (suc k) l = R (suc k) l
