-- How the code carries the chain's text: the profile by value, and the chain of the steps so far prepared, in numbers that are lent beside it.
use Rattle.std.specs.Prelude.{◌≡◌, ℕ, Bool, List, ℤ, Result, Ok, Err}
use Rattle.refusal.specs.Numbers as refusal
use Rattle.refusal.specs.Order.{pick, unless}
use Rattle.refusal.specs.Refusals.{number}
use Rattle.chain.specs.Faults.{profile_fault}
use Rattle.chain.specs.Prepared.{Holds}
use Rattle.chain.specs.declared.Point.{Point}
use Rattle.line.specs.Answers.{Line, Good, Malformed, Refused}
use Rattle.line.specs.declared.Unread.{Unread}
use Rattle.line.specs.declared.Unread.TheVariants as unread
use Rattle.lot_plan.specs.LotPlan.{Chained, chain, refused}

-- the refusal's number of a line that is not read
abbrev pub unread_number : Unread → ℕ
unread_number (unread.Malformed f) = number f.refusal
unread_number (unread.Refused refusal) = number refusal

-- a point line with its refusal by the number alone
abbrev pub point_told : Line Point → Result Point ℕ
point_told (Good p) = Ok p
point_told (Malformed f) = Err f.number
point_told (Refused n) = Err n

-- what was read is what the text says: its profile, with its steps held in the numbers; or the same refusal
abbrev pub Took : Chained → List ℤ → Result ℤ ℕ → Type 0
Took (chain y ss) numbers r = (r ≡ Ok y) × Holds y numbers ss
Took (refused n) numbers r = r ≡ Err n

-- an edition's year, by where its line stands
abbrev pub edition_read : Bool → ℤ → Result ℤ ℕ
edition_read isFirst y = pick isFirst (unless (profile_fault y) Err (Ok y)) (Err refusal.misplaced)
