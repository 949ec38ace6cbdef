-- A point's motion from a grid's text: the grid, the three parts at the point, and the velocity that they turn to.
use Rattle.std.specs.Prelude.{List, ℕ, ℤ, Result, Ok, Err}
use Rattle.chain.specs.declared.Velocity.{Velocity}
use Rattle.line.specs.declared.GridHeader.{GridHeader}
use Rattle.line.specs.declared.VelocityParts.{VelocityParts}
use Rattle.velocity_grid.specs.AtPoint.{parts_at}
use Rattle.velocity_grid.specs.Step.{velocity_of}
use Rattle.velocity_grid.specs.Answers.{GridFault}
use Rattle.velocity_grid.specs.Text.{grid_of, grid_numbers}
use Rattle.velocity_grid.specs.declared.Motion.{Motion}

-- the velocity's refusals are the parts' own, then the step's
unfoldable pub motion_from : Result Velocity ℕ → Result VelocityParts ℕ → Result Motion ℕ
motion_from (Err n) p = Err n
motion_from (Ok v) (Err n) = Err n
motion_from (Ok v) (Ok p) = Ok (record { parts = p; velocity = v })

unfoldable pub motion_on : GridHeader → List ℤ → ℤ → ℤ → ℤ → ℤ → ℤ → Result Motion ℕ
unfolding motion_from velocity_of parts_at
motion_on g nodes latitude longitude datum before after = motion_from (velocity_of g nodes latitude longitude datum before after) (parts_at g nodes latitude longitude)

unfoldable pub motion_with : Result GridHeader GridFault → List ℤ → ℤ → ℤ → ℤ → ℤ → ℤ → Result Motion ℕ
unfolding motion_on
motion_with (Err f) nodes latitude longitude datum before after = Err f.number
motion_with (Ok g) nodes latitude longitude datum before after = motion_on g nodes latitude longitude datum before after

-- refused: 18 to 22, 2, 30 for the text; 12, 24 for the point; 2, 3, 4 for the datum and the epochs
unfoldable pub motion_of : List ℕ → ℤ → ℤ → ℤ → ℤ → ℤ → Result Motion ℕ
unfolding motion_with grid_of grid_numbers
motion_of text latitude longitude datum before after = motion_with (grid_of text) (grid_numbers text) latitude longitude datum before after
