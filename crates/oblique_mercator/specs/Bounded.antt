-- What is promised of the way forward beside its definition: for every accepted projection and every accepted point easting and northing are finite and bounded. (That they
-- stay below 10,000,000 m, so that the way back takes them, is measured.)
use Rattle.std.specs.Prelude.{ℕ, ◌*◌, ◌≤◌, T, ℤ, Float, Result, Ok, Err}
use Rattle.std.specs.Float.Ieee.Scale.{finite}
use Rattle.std.specs.Float.Ieee.Positive.{num, den}
use Rattle.angle.specs.declared.Projected.{Projected}
use Rattle.oblique_mercator.specs.Forward.{forward_of}
use Rattle.oblique_mercator.specs.declared.Parameters.{Parameters}

-- finite, and at most b in size
pub record AtMost (b : ℕ) (x : Float) : Type 0 where
  pub is_finite : T (finite x)
  pub size : num x ≤ b * den x

-- each at most 30,000,000 m in size
abbrev pub PlaneBounded : Result Projected ℕ → Type 0
PlaneBounded (Ok p) = AtMost 30000000 p.easting × AtMost 30000000 p.northing
PlaneBounded (Err number) = Unit {0}

abbrev pub Bounded : Type 0
Bounded = (p : Parameters) (latitude longitude : ℤ) → PlaneBounded (forward_of p latitude longitude)
