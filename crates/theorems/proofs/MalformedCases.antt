-- The worked cases of what is wrong with a line, by computation. Assumes nothing.
use mathlib.Core.Path.{refl}
use Rattle.line.specs.Worked.{open_lines}
use Rattle.theorems.specs.MalformedCases.{MalformedCases}

pub malformed-cases : MalformedCases
unfolding open_lines
malformed-cases = record { nothing = refl; lengths = refl; letters = refl; counted = refl; fields = refl }
