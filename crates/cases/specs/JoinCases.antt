-- The orders of refusals that go by a whole chain: joining two, and a row of points. A case for each place of an order, in which that test fails and every later
-- one that can.
use Rattle.std.specs.Prelude.{◌≡◌, List, [], ◌∷◌, map, ℕ, pos, replicate, Result, Ok, Err}
use Rattle.refusal.specs.Numbers as refusal
use Rattle.chain.specs.declared.Realization.{Realization}
use Rattle.chain.specs.declared.Kind.{Kind}
use Rattle.chain.specs.declared.Step.{Step}
use Rattle.chain.specs.declared.Chain.{Chain}
use Rattle.chain.specs.Join.{join_of}
use Rattle.chain.specs.PointRow.{row_fault}
use Rattle.chain.specs.Prepared.{chain_of}
use Rattle.chain.specs.Case.{on, shift, velocity}
use Rattle.cases.specs.RangeCases.{RangeCase, by, fine}

-- ---- steps
abbrev step : Kind → Realization → Realization → Step
step kind r a = record { kind = kind; before = r; after = a }

-- stays where it is: any number of them are a chain
abbrev stay : ℕ → Step
stay datum = step (shift (pos 0) (pos 0) (pos 0)) (on datum 2010000) (on datum 2010000)

-- velocities with ever fewer faults: out of range, epoch 2010000 for datum 1, which 2009 has no velocity for, another datum after, and each joins nothing
abbrev out_of_range : Step
out_of_range = step (velocity (pos 10001) (pos 0) (pos 0)) (on 1 2010000) (on 2 0)

abbrev wrong_epoch : Step
wrong_epoch = step (velocity (pos 10000) (pos 0) (pos 0)) (on 1 2010000) (on 2 0)

abbrev wrong_kind : Step
wrong_kind = step (velocity (pos 10000) (pos 0) (pos 0)) (on 7 2020000) (on 6 2010000)

abbrev joins_nothing : Step
joins_nothing = step (velocity (pos 10000) (pos 0) (pos 0)) (on 7 2020000) (on 7 2010000)

-- ---- chains
abbrev of : ℕ → List Step → Chain
of year ss = chain_of (pos year) ss

-- ever fewer faults: mark, length, then a step's 2, 3, 25, 4, 5
abbrev bad : List Chain
bad =
    of 2010 (replicate 9 out_of_range)
    ∷ of 2009 (replicate 9 out_of_range)
    ∷ of 2009 (stay 5 ∷ out_of_range ∷ [])
    ∷ of 2009 (stay 5 ∷ wrong_epoch ∷ [])
    ∷ of 2009 (stay 5 ∷ wrong_kind ∷ [])
    ∷ of 2021 (stay 5 ∷ wrong_kind ∷ [])
    ∷ of 2021 (stay 5 ∷ joins_nothing ∷ [])
    ∷ []

abbrev wanted_of_bad : List ℕ
wanted_of_bad = refusal.range ∷ refusal.ninth ∷ refusal.range ∷ refusal.epoch ∷ refusal.profile ∷ refusal.kind ∷ refusal.join ∷ []

-- ---- two chains: the first's own, the second's own, then 5, 6 and 25 of the two
abbrev number_in : Result Chain ℕ → ℕ
number_in (Ok c) = fine
number_in (Err n) = n

abbrev joined : Chain → Chain → ℕ
joined c d = number_in (join_of c d)

abbrev pub pair_cases : List RangeCase
pair_cases =
    by (joined (of 2021 (replicate 5 (stay 5))) (of 2009 (replicate 5 (stay 7)))) refusal.join
    ∷ by (joined (of 2021 (replicate 5 (stay 5))) (of 2009 (replicate 5 (stay 5)))) refusal.ninth
    ∷ by (joined (of 2021 (replicate 5 (stay 5))) (of 2009 (replicate 3 (stay 5)))) refusal.profile
    ∷ by (joined (of 2009 (replicate 5 (stay 5))) (of 2009 (replicate 3 (stay 5)))) fine
    ∷ by (joined (of 2009 (replicate 5 (stay 5))) (of 2009 (replicate 4 (stay 5)))) refusal.ninth
    -- no steps join any, under a like profile
    ∷ by (joined (of 2009 []) (of 2021 (stay 5 ∷ []))) refusal.profile
    ∷ by (joined (of 2021 (stay 5 ∷ [])) (of 2009 [])) refusal.profile
    ∷ by (joined (of 2021 []) (of 2021 (replicate 8 (stay 5)))) fine
    ∷ by (joined (of 2021 (replicate 8 (stay 5))) (of 2021 [])) fine
    ∷ []

-- ---- a row of n answers for m points: 26, then the chain's own
abbrev short : Chain → ℕ
short c = row_fault c 3 2

abbrev enough : Chain → ℕ
enough c = row_fault c 3 3

-- so many answers for three points, by a good chain
abbrev roomy : ℕ → ℕ
roomy answers = row_fault (of 2021 []) 3 answers

pub record JoinCases : Type 0 where
  -- the second is bad by its mark, and in all that two chains are refused for
  pub first : map (λ (c : Chain). joined c (of 2010 (replicate 9 out_of_range))) bad ≡ wanted_of_bad
  pub second : map (joined (of 2021 (replicate 8 (stay 8)))) bad ≡ wanted_of_bad
  pub pair : map (λ (f : RangeCase). f.found) pair_cases ≡ map (λ (f : RangeCase). f.wanted) pair_cases
  pub rows : map short bad ≡ replicate 7 refusal.row
  pub chains : map enough bad ≡ wanted_of_bad
  pub room : map roomy (2 ∷ 3 ∷ 9 ∷ []) ≡ (refusal.row ∷ fine ∷ fine ∷ [])
