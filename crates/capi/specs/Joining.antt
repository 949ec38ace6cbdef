-- Two chains joined, from C: their numbers one after the other, at the start of the array.
use Rattle.std.specs.Prelude.{◌≡◌, Bool, ◌&&◌, List, ◌++◌, ℕ, ◌%◌, eqb, ℤ, pos, neg_ℤ, length, drop, Result, Ok, Err}
use Rattle.chain.specs.declared.Chain.{Chain}
use Rattle.chain.specs.Join.{join_of}
use Rattle.capi.specs.Outcome.{CallOutcome, wrong_length, refused, gives, if_sized}
use Rattle.chain.specs.Numbers.{chain_from}

-- whole steps, and room for eight of them
unfoldable pub room_for_eight : ℕ → ℕ → ℕ → Bool
room_for_eight first second out = eqb (first % 13) 0 && eqb (second % 13) 0 && eqb out 104

-- the steps as they were given
abbrev pub of_joined : List ℤ → List ℤ → Result Chain ℕ → CallOutcome ℤ
of_joined first second (Ok chain) = gives (first ++ second)
of_joined first second (Err n) = refused n

unfoldable pub join_call : ℤ → List ℤ → ℤ → List ℤ → List ℤ → CallOutcome ℤ
join_call y first z second out =
    if_sized (room_for_eight (length first) (length second) (length out)) (of_joined first second (join_of (chain_from y first) (chain_from z second)))

-- how many numbers are given; minus the number of a refusal or of a wrong length
abbrev pub count_of : CallOutcome ℤ → ℤ
count_of wrong_length = neg_ℤ (pos 255)
count_of (refused n) = neg_ℤ (pos n)
count_of (gives vs) = pos (length vs)

-- they stand at the start of the array, which is as it was past them; and all of it where none are given
abbrev pub at_start : CallOutcome ℤ → List ℤ → List ℤ
at_start wrong_length before = before
at_start (refused n) before = before
at_start (gives vs) before = vs ++ drop (length vs) before

pub record Counted (o : CallOutcome ℤ) (before after : List ℤ) (r : ℤ) : Type 0 where
  pub status : r ≡ count_of o
  pub out : after ≡ at_start o before
