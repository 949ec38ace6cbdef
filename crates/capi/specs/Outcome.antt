-- What a call answers, and what stands in the array that it writes, once for all calls.
use Rattle.std.specs.Prelude.{ℕ, ◌≡◌, Bool, List, ℤ, pos}
use Rattle.refusal.specs.Order.{pick}

-- an array that is not as long as the call asks; a refusal, by its number; or the numbers that the call gives
pub data CallOutcome (A : Type 0) : Type 0 where
  wrong_length : CallOutcome A
  refused : ℕ → CallOutcome A
  gives : List A → CallOutcome A

-- wrong lengths come before everything
abbrev pub if_sized : {A : Type 0} → Bool → CallOutcome A → CallOutcome A
if_sized sized o = pick sized o wrong_length

-- the number that the call returns
abbrev pub status_of : {A : Type 0} → CallOutcome A → ℤ
status_of wrong_length = pos 255
status_of (refused n) = pos n
status_of (gives vs) = pos 0

-- the array after the call: nothing is written unless numbers are given, and then they are all of it
abbrev pub out_of : {A : Type 0} → CallOutcome A → List A → List A
out_of wrong_length before = before
out_of (refused n) before = before
out_of (gives vs) before = vs

-- both, of an array that held `before` and holds `after`
pub record Returns {A : Type 0} (o : CallOutcome A) (before after : List A) (r : ℤ) : Type 0 where
  pub status : r ≡ status_of o
  pub out : after ≡ out_of o before
