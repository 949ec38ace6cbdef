-- Joining two chains: the second's steps after the first's.
use Rattle.std.specs.Prelude.{Bool, true, not, List, [], ◌∷◌, ◌++◌, ℕ, ◌+◌, pos, ltb, length, drop, Result, Ok, Err}
use Rattle.refusal.specs.Numbers as refusal
use Rattle.refusal.specs.Order.{Test, ◌gives◌, first, unless}
use Rattle.ranges.specs.Ranges.{equal}
use Rattle.chain.specs.declared.Kind.TheVariants.{Shift}
use Rattle.chain.specs.declared.Step.{Step}
use Rattle.chain.specs.declared.Chain.{Chain}
use Rattle.chain.specs.Faults.{chain_tests, steps_of}
use Rattle.chain.specs.Convert.{joins}

-- what stands past a chain's eight steps: no chain looks there
abbrev pub past_steps : Step
past_steps = record {
  kind = Shift (record { dx = pos 0; dy = pos 0; dz = pos 0 });
  before = record { datum = pos 0; epoch = pos 0 };
  after = record { datum = pos 0; epoch = pos 0 };
}

-- whether the second steps begin where the first end; no steps at all join any
abbrev pub meet : List Step → List Step → Bool
meet ss [] = true
meet ss (t ∷ ts) = joins ss t

-- how many steps there are together
abbrev pub together : Chain → Chain → ℕ
together c d = length (steps_of c) + length (steps_of d)

-- each chain's own faults, the first's before the second's; then 5, 6 and 25 of the two
abbrev pub pair_tests : Chain → Chain → List Test
pair_tests c d =
    (not (meet (steps_of c) (steps_of d)) gives refusal.join)
    ∷ (ltb 8 (together c d) gives refusal.ninth)
    ∷ (not (equal c.profile d.profile) gives refusal.profile)
    ∷ []

abbrev pub join_tests : Chain → Chain → List Test
join_tests c d = chain_tests c ++ (chain_tests d ++ pair_tests c d)

-- the second's steps stand after the first's; what stands past them is the first's, and no chain looks at it
unfoldable pub joined_steps : Chain → Chain → List Step
joined_steps c d = steps_of c ++ (steps_of d ++ drop (together c d) c.steps)

abbrev pub joined_of : Chain → Chain → Chain
joined_of c d = record { steps = joined_steps c d; length = together c d; profile = c.profile }

unfoldable pub join_fault : Chain → Chain → ℕ
join_fault c d = first (join_tests c d)

-- the joined chain, or the refusal's number
unfoldable pub join_of : Chain → Chain → Result Chain ℕ
join_of c d = unless (join_fault c d) Err (Ok (joined_of c d))
