-- What is promised of the turn beside its definition: of parts within 2,500, at every accepted point, no rounding refuses and the velocity stays below 4,331
-- in size, so that a velocity step's range takes it.
use Rattle.std.specs.Prelude.{◌≡◌, true, ◌≤◌, ℕ, ℤ, nat_abs, Result, Ok, Err}
use Rattle.ranges.specs.Ranges.{latitude_range, longitude_range}
use Rattle.velocity_grid.specs.AtPoint.{PartsOk}
use Rattle.velocity_grid.specs.Turn.{turned_at, in_units}
use Rattle.line.specs.declared.VelocityParts.{VelocityParts}
use Rattle.chain.specs.declared.Velocity.{Velocity}

-- units of 0.00001 m a year
abbrev pub SmallVelocity : Result Velocity ℕ → Type 0
SmallVelocity (Ok v) = (nat_abs v.vx ≤ 4330) × (nat_abs v.vy ≤ 4330) × (nat_abs v.vz ≤ 4330)
SmallVelocity (Err n) = ⊥

abbrev pub Bounded : Type 0
Bounded = (p : VelocityParts) (latitude longitude : ℤ) → PartsOk p → latitude_range latitude ≡ true → longitude_range longitude ≡ true → SmallVelocity (in_units (turned_at p latitude longitude))
