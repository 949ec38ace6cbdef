-- The calls of a velocity grid from C: the text, and the step as the 13 numbers that a chain takes.
use Rattle.std.specs.Prelude.{List, [], ◌∷◌, ℕ, eqb, ℤ, pos, length, Result, Ok, Err}
use Rattle.line.specs.Bytes.{letter_v}
use Rattle.line.specs.declared.GridHeader.{GridHeader}
use Rattle.velocity_grid.specs.Answers.{GridFault, faultless}
use Rattle.velocity_grid.specs.Text.{grid_of}
use Rattle.velocity_grid.specs.Motion.{motion_of}
use Rattle.velocity_grid.specs.declared.Motion.{Motion}
use Rattle.capi.specs.Outcome.{CallOutcome, refused, gives, if_sized}

-- east, north, up; then V, no convention, the datum and both epochs, the velocity, and four numbers that no velocity step reads
abbrev pub of_motion : Result Motion ℕ → ℤ → ℤ → ℤ → CallOutcome ℤ
of_motion (Err n) datum before after = refused n
of_motion (Ok m) datum before after =
    gives
    (m.parts.east
    ∷ m.parts.north
    ∷ m.parts.up
    ∷ pos letter_v
    ∷ pos 0
    ∷ datum
    ∷ before
    ∷ datum
    ∷ after
    ∷ m.velocity.vx
    ∷ m.velocity.vy
    ∷ m.velocity.vz
    ∷ pos 0
    ∷ pos 0
    ∷ pos 0
    ∷ pos 0
    ∷ [])

unfoldable pub grid_velocity_call : List ℕ → ℤ → ℤ → ℤ → ℤ → ℤ → List ℤ → CallOutcome ℤ
grid_velocity_call text latitude longitude datum before after out =
    if_sized (eqb (length out) 16) (of_motion (motion_of text latitude longitude datum before after) datum before after)

-- the refusal number, the line and the place
abbrev pub fault_in : Result GridHeader GridFault → GridFault
fault_in (Err f) = f
fault_in (Ok g) = faultless

abbrev pub of_grid_fault : GridFault → CallOutcome ℤ
of_grid_fault f = gives (pos f.number ∷ pos f.line ∷ pos f.place ∷ [])

unfoldable pub grid_fault_call : List ℕ → List ℤ → CallOutcome ℤ
grid_fault_call text out = if_sized (eqb (length out) 3) (of_grid_fault (fault_in (grid_of text)))
