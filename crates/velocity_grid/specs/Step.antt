-- A velocity step out of a grid, for a datum and two epochs.
use Rattle.std.specs.Prelude.{List, ℕ, ℤ, Result, Ok, Err}
use Rattle.refusal.specs.Order.{unless}
use Rattle.chain.specs.Faults.{latest, step_fault}
use Rattle.chain.specs.declared.Velocity.{Velocity}
use Rattle.chain.specs.declared.Step.{Step}
use Rattle.chain.specs.declared.Kind.TheVariants as kind
use Rattle.velocity_grid.specs.AtPoint.{parts_at}
use Rattle.velocity_grid.specs.Turn.{turned_at, in_units}
use Rattle.line.specs.declared.GridHeader.{GridHeader}
use Rattle.line.specs.declared.VelocityParts.{VelocityParts}

-- one datum, two epochs
abbrev pub velocity_step : Velocity → ℤ → ℤ → ℤ → Step
velocity_step v datum before after = record {
  kind = kind.Velocity v;
  before = record { datum = datum; epoch = before };
  after = record { datum = datum; epoch = after };
}

-- a velocity, unless its step has a fault by itself: 2, 3, 4, and no 25, since the latest profile has every step
unfoldable pub velocity_for : Result Velocity ℕ → ℤ → ℤ → ℤ → Result Velocity ℕ
velocity_for (Err n) datum before after = Err n
velocity_for (Ok v) datum before after = unless (step_fault latest (velocity_step v datum before after)) Err (Ok v)

-- of the parts, turned at the point, or their refusal
unfoldable pub velocity_with : Result VelocityParts ℕ → ℤ → ℤ → ℤ → ℤ → ℤ → Result Velocity ℕ
unfolding velocity_for in_units turned_at
velocity_with (Err n) latitude longitude datum before after = Err n
velocity_with (Ok p) latitude longitude datum before after = velocity_for (in_units (turned_at p latitude longitude)) datum before after

-- refused: 2, 30, 12, 24, then 2, 3, 4
unfoldable pub velocity_of : GridHeader → List ℤ → ℤ → ℤ → ℤ → ℤ → ℤ → Result Velocity ℕ
unfolding parts_at velocity_with
velocity_of g nodes latitude longitude datum before after = velocity_with (parts_at g nodes latitude longitude) latitude longitude datum before after

-- and the step of it
unfoldable pub as_step : Result Velocity ℕ → ℤ → ℤ → ℤ → Result Step ℕ
as_step (Err n) datum before after = Err n
as_step (Ok v) datum before after = Ok (velocity_step v datum before after)

unfoldable pub velocity_step_of : GridHeader → List ℤ → ℤ → ℤ → ℤ → ℤ → ℤ → Result Step ℕ
unfolding velocity_of as_step
velocity_step_of g nodes latitude longitude datum before after = as_step (velocity_of g nodes latitude longitude datum before after) datum before after
