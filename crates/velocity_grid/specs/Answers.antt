-- What is wrong with a grid's text, by its numbers; and what the code answers, said by the same numbers.
use Rattle.std.specs.Prelude.{ℕ, ◌≡◌, Result, Ok, Err}
use Rattle.refusal.specs.Refusals.{number}
use Rattle.refusal.specs.declared.Refusal.{Refusal}
use Rattle.velocity_grid.specs.declared.GridFault as declared

-- a number of the refusal table, 0 for no fault; the line, from 1, or 0 where no line is; and the place in it, 0 but for a line of bad form
pub record GridFault : Type 0 where
  pub number : ℕ
  pub line : ℕ
  pub place : ℕ

abbrev pub faultless : GridFault
faultless = record { number = 0; line = 0; place = 0 }

-- ---- the code's answers, by their numbers
abbrev pub fault_told : declared.GridFault → GridFault
fault_told f = record { number = number f.refusal; line = f.line; place = f.place }

-- of an examination
abbrev pub examined : Result Unit declared.GridFault → GridFault
examined (Ok x) = faultless
examined (Err f) = fault_told f

abbrev pub grid_told : {T : Type 0} → Result T declared.GridFault → Result T GridFault
grid_told (Ok x) = Ok x
grid_told (Err f) = Err (fault_told f)

-- what a conversion of a fault to its refusal gives
abbrev pub gives_refusal : declared.GridFault → Refusal → Type 0
gives_refusal f refusal = refusal ≡ f.refusal
