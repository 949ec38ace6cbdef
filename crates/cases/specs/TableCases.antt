-- The tables' own numbers, as the papers and include/swivelcrane.h print them: each refusal by its number, and a step's 13 numbers, each in its place.
use Rattle.std.specs.Prelude.{◌≡◌, List, [], ◌∷◌, ◌++◌, map, ℕ, ℤ, pos, replicate}
use Rattle.refusal.specs.Numbers as refusal
use Rattle.chain.specs.declared.Realization.{Realization}
use Rattle.chain.specs.declared.Convention.{Convention}
use Rattle.chain.specs.declared.Convention.TheVariants.{PositionVector, CoordinateFrame}
use Rattle.chain.specs.declared.Kind.{Kind}
use Rattle.chain.specs.declared.Kind.TheVariants.{BursaWolf, Frame}
use Rattle.chain.specs.declared.Step.{Step}
use Rattle.chain.specs.Faults.{steps_of, step_fault}
use Rattle.chain.specs.Numbers.{chain_from}
use Rattle.chain.specs.Case.{less, on, shift, velocity}

-- ---- refusals, in the order of the table; 1 is not given
abbrev named : List ℕ
named =
    refusal.range
    ∷ refusal.epoch
    ∷ refusal.kind
    ∷ refusal.join
    ∷ refusal.ninth
    ∷ refusal.misplaced
    ∷ refusal.earlier
    ∷ refusal.start
    ∷ refusal.area
    ∷ refusal.left
    ∷ refusal.geodetic
    ∷ refusal.apart
    ∷ refusal.size
    ∷ refusal.long
    ∷ refusal.ids
    ∷ refusal.same
    ∷ refusal.length
    ∷ refusal.letter
    ∷ refusal.count
    ∷ refusal.id
    ∷ refusal.plain
    ∷ refusal.plane
    ∷ refusal.off_grid
    ∷ refusal.profile
    ∷ refusal.row
    ∷ refusal.buffer
    ∷ refusal.limit
    ∷ refusal.state
    ∷ refusal.lines
    ∷ []

abbrev numbered : List ℕ
numbered = 2 ∷ 3 ∷ 4 ∷ 5 ∷ 6 ∷ 7 ∷ 8 ∷ 9 ∷ 10 ∷ 11 ∷ 12 ∷ 13 ∷ 14 ∷ 15 ∷ 16 ∷ 17 ∷ 18 ∷ 19 ∷ 20 ∷ 21 ∷ 22 ∷ 23 ∷ 24 ∷ 25 ∷ 26 ∷ 27 ∷ 28 ∷ 29 ∷ 30 ∷ []

-- ---- a chain as numbers: the letters of the kind and of the convention, datum and epoch before and after, and seven numbers
abbrev thirteen : ℕ → ℕ → ℕ → ℕ → ℕ → ℕ → List ℤ → List ℤ
thirteen kind convention datum epoch datum' epoch' rest = pos kind ∷ pos convention ∷ pos datum ∷ pos epoch ∷ pos datum' ∷ pos epoch' ∷ rest

abbrev seven : List ℤ
seven = less 31 ∷ pos 32 ∷ pos 33 ∷ pos 34 ∷ pos 35 ∷ less 36 ∷ pos 37 ∷ []

abbrev numbers : List ℤ
numbers =
    thirteen 84 0 6 2000000 7 2006586 seven
    ++ thirteen 86 80 8 2010000 8 2020000 seven
    ++ thirteen 66 80 1 0 2 0 seven
    ++ thirteen 66 67 3 1994000 4 1997000 seven
    ++ thirteen 70 0 9 2010000 10 2010000 seven
    ++ thirteen 84 0 5 2000000 5 2000000 (replicate 7 (pos 1))
    ++ thirteen 86 0 5 2000000 5 2000001 (replicate 7 (pos 2))
    ++ thirteen 70 67 5 2000001 10 2000001 (replicate 7 (pos 3))

abbrev step : Kind → Realization → Realization → Step
step kind r a = record { kind = kind; before = r; after = a }

abbrev turned : Convention → Kind
turned way = BursaWolf (record { convention = way; dx = less 31; dy = pos 32; dz = pos 33; rx = pos 34; ry = pos 35; rz = less 36; s = pos 37 })

abbrev steps : List Step
steps =
    step (shift (less 31) (pos 32) (pos 33)) (on 6 2000000) (on 7 2006586)
    ∷ step (velocity (less 31) (pos 32) (pos 33)) (on 8 2010000) (on 8 2020000)
    ∷ step (turned PositionVector) (on 1 0) (on 2 0)
    ∷ step (turned CoordinateFrame) (on 3 1994000) (on 4 1997000)
    ∷ step Frame (on 9 2010000) (on 10 2010000)
    ∷ step (shift (pos 1) (pos 1) (pos 1)) (on 5 2000000) (on 5 2000000)
    ∷ step (velocity (pos 2) (pos 2) (pos 2)) (on 5 2000000) (on 5 2000001)
    ∷ step Frame (on 5 2000001) (on 10 2000001)
    ∷ []

-- no known kind, no known convention, a minus before a kind's number: refused with 2, whatever else the step says
abbrev unknown : List (List ℤ)
unknown =
    thirteen 65 80 5 2000000 5 2000000 (replicate 7 (pos 0))
    ∷ thirteen 66 0 5 2000000 5 2000000 (replicate 7 (pos 0))
    ∷ (less 84 ∷ pos 0 ∷ pos 5 ∷ pos 2000000 ∷ pos 5 ∷ pos 2000000 ∷ replicate 7 (pos 0))
    ∷ []

abbrev faults : List ℤ → List ℕ
faults ns = map (step_fault (pos 2021)) (steps_of (chain_from (pos 2021) ns))

pub record TableCases : Type 0 where
  pub table : named ≡ numbered
  pub layout : steps_of (chain_from (pos 2021) numbers) ≡ steps
  pub profile : (chain_from (pos 2009) numbers).profile ≡ pos 2009
  -- past the eighth the steps are counted
  pub count : (chain_from (pos 2021) (numbers ++ thirteen 84 0 5 2000000 5 2000000 seven)).length ≡ 9
  pub letters : map faults unknown ≡ ((2 ∷ []) ∷ (2 ∷ []) ∷ (2 ∷ []) ∷ [])
