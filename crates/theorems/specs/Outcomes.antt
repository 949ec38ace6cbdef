-- What is promised of conversions beside demand 3: what comes out can be handed in again, a refusal has a number of the table, and a prepared chain of a profile,
-- extended step by step from none, answers as the conversion does, forward and inverse; and so does a chain made ready for a row of points.
use Rattle.std.specs.Prelude.{◌≡◌, true, List, [], ◌∷◌, ◌++◌, ℕ, ◌<◌, ℤ, pos, length, Ok, Err}
use Rattle.refusal.specs.Order.{first}
use Rattle.ranges.specs.Ranges.{profile_range}
use Rattle.chain.specs.declared.Point.{Point}
use Rattle.chain.specs.declared.Step.{Step}
use Rattle.chain.specs.declared.Chain.{Chain}
use Rattle.chain.specs.declared.Direction.{Direction}
use Rattle.chain.specs.Faults.{point_fault, step_tests}
use Rattle.chain.specs.Convert.{more_tests, forward_of, inverse_of}
use Rattle.chain.specs.Prepared.{length_in, extend_fault, extended_by, forward_prepared, inverse_prepared, chain_of, Holds}
use Rattle.chain.specs.PointRow.{convert_of, ready_chain_of, convert_ready}

abbrev pub HandedInAgain : Type 0
HandedInAgain = (c : Chain) (p q : Point) → point_fault c.profile p ≡ 0 → forward_of c p ≡ Ok q → point_fault c.profile q ≡ 0

abbrev pub NumberOfTable : Type 0
NumberOfTable = (c : Chain) (p : Point) (n : ℕ) → forward_of c p ≡ Err n → n < 100

-- the numbers hold no step to begin with, and a step more that is not refused
abbrev pub HeldEmpty : Type 0
HeldEmpty = (y : ℤ) (l : List ℤ) → profile_range y ≡ true → length l ≡ 72 → length_in l ≡ pos 0 → Holds y l []

abbrev pub HeldMore : Type 0
HeldMore =
    (y : ℤ) (l : List ℤ) (ss : List Step) (s : Step) → Holds y l ss → first (step_tests y s ++ more_tests ss s) ≡ 0 → Holds y (extended_by y l s) (ss ++ (s ∷ []))

-- what they say of a step is what the steps say
abbrev pub SameRefusal : Type 0
SameRefusal = (y : ℤ) (l : List ℤ) (ss : List Step) (s : Step) → Holds y l ss → extend_fault y l s ≡ first (step_tests y s ++ more_tests ss s)

abbrev pub PreparedForward : Type 0
PreparedForward = (y : ℤ) (l : List ℤ) (ss : List Step) → Holds y l ss → (p : Point) → point_fault y p ≡ 0 → forward_prepared l p ≡ forward_of (chain_of y ss) p

abbrev pub PreparedInverse : Type 0
PreparedInverse = (y : ℤ) (l : List ℤ) (ss : List Step) → Holds y l ss → (p : Point) → point_fault y p ≡ 0 → inverse_prepared l p ≡ inverse_of (chain_of y ss) p

abbrev pub ReadyConverts : Type 0
ReadyConverts = (c : Chain) (d : Direction) (p : Point) → convert_ready (ready_chain_of c) d p ≡ convert_of c d p

pub record Outcomes : Type 0 where
  pub again : HandedInAgain
  pub number : NumberOfTable
  pub empty : HeldEmpty
  pub more : HeldMore
  pub refusal : SameRefusal
  pub forward : PreparedForward
  pub inverse : PreparedInverse
  pub ready : ReadyConverts
