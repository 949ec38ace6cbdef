-- A refusal of the code says its number in the table.
use Rattle.std.specs.Prelude.{ℕ, ◌≡◌, Result, Ok, Err}
use Rattle.refusal.specs.Numbers as numbers
use Rattle.refusal.specs.declared.Refusal.{Refusal}
use Rattle.refusal.specs.declared.Refusal.TheVariants as refusal

abbrev pub number : Refusal → ℕ
number refusal.Range = numbers.range
number refusal.Epoch = numbers.epoch
number refusal.Kind = numbers.kind
number refusal.Join = numbers.join
number refusal.Ninth = numbers.ninth
number refusal.Misplaced = numbers.misplaced
number refusal.Earlier = numbers.earlier
number refusal.Start = numbers.start
number refusal.Area = numbers.area
number refusal.Left = numbers.left
number refusal.Geodetic = numbers.geodetic
number refusal.Apart = numbers.apart
number refusal.Size = numbers.size
number refusal.Long = numbers.long
number refusal.Ids = numbers.ids
number refusal.Same = numbers.same
number refusal.Length = numbers.length
number refusal.Letter = numbers.letter
number refusal.Count = numbers.count
number refusal.Id = numbers.id
number refusal.Plain = numbers.plain
number refusal.Plane = numbers.plane
number refusal.OffGrid = numbers.off_grid
number refusal.Profile = numbers.profile
number refusal.Row = numbers.row
number refusal.Buffer = numbers.buffer
number refusal.Limit = numbers.limit
number refusal.State = numbers.state
number refusal.Lines = numbers.lines

-- what a conversion of a refusal to a number gives
abbrev pub gives_number : Refusal → ℕ → Type 0
gives_number refusal n = n ≡ number refusal

-- an answer, its refusal by the number
abbrev pub told : {T : Type 0} → Result T Refusal → Result T ℕ
told (Ok x) = Ok x
told (Err refusal) = Err (number refusal)

-- the number of the refusal that an examination ends with, 0 where it finds no fault
abbrev pub fault_number : Result Unit Refusal → ℕ
fault_number (Ok x) = 0
fault_number (Err refusal) = number refusal
