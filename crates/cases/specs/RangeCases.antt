-- Every range of a point's and a step's numbers at both ends, and one past each: 0 for no fault, 2 (range) or 3 (epoch). Figures from the table of ranges.
use Rattle.std.specs.Prelude.{◌≡◌, List, [], ◌∷◌, ◌++◌, map, ℕ, suc, ℤ, pos}
use Rattle.refusal.specs.Numbers as refusal
use Rattle.chain.specs.declared.Realization.{Realization}
use Rattle.chain.specs.declared.Point.{Point}
use Rattle.chain.specs.declared.Convention.TheVariants.{PositionVector}
use Rattle.chain.specs.declared.Kind.{Kind}
use Rattle.chain.specs.declared.Kind.TheVariants.{Shift, Velocity, BursaWolf, Frame}
use Rattle.chain.specs.declared.Step.{Step}
use Rattle.chain.specs.Faults.{point_fault, step_fault}
use Rattle.chain.specs.Case.{less, on, xyz, point, shift, velocity}
use Rattle.cases.specs.Cases.{a1}

-- a fault, and the number that the table gives
pub record RangeCase : Type 0 where
  pub found : ℕ
  pub wanted : ℕ

abbrev pub by : ℕ → ℕ → RangeCase
by f w = record { found = f; wanted = w }

abbrev pub fine : ℕ
fine = 0

-- ---- a point: issue, order, datum, epoch, coordinates
abbrev labelled : ℤ → ℤ → Point
labelled issue order = record { label = record { id = record { high = 0x4131_0000_0000_0000; low = 0 }; issue = issue; order = order }; realization = on 8 2010000; position = a1 }

abbrev issued : ℤ → Point
issued n = labelled n (pos 1)

abbrev ordered : ℤ → Point
ordered n = labelled (pos 1) n

-- under the edition of 2021
abbrev alone : Point → ℕ
alone p = point_fault (pos 2021) p

abbrev at : Realization → ℕ → RangeCase
at r w = by (alone (point r a1)) w

-- the same bounds on X, Y and Z
abbrev coordinates : ℤ → ℕ → List RangeCase
coordinates z w =
    by (alone (point (on 8 2010000) (xyz z (pos 0) (pos 0)))) w
    ∷ by (alone (point (on 8 2010000) (xyz (pos 0) z (pos 0)))) w
    ∷ by (alone (point (on 8 2010000) (xyz (pos 0) (pos 0) z))) w
    ∷ []

abbrev pub point_cases : List RangeCase
point_cases =
    by (alone (issued (pos 0))) refusal.range
    ∷ by (alone (issued (pos 1))) fine
    ∷ by (alone (issued (pos 65535))) fine
    ∷ by (alone (issued (pos 65536))) refusal.range
    ∷ by (alone (ordered (pos 0))) refusal.range
    ∷ by (alone (ordered (pos 4))) fine
    ∷ by (alone (ordered (pos 5))) refusal.range
    ∷ at (on 0 2010000) refusal.range
    ∷ at (on 1 0) fine
    ∷ at (on 2 0) fine
    ∷ at (on 3 0) refusal.epoch
    ∷ at (on 2 2010000) refusal.epoch
    ∷ at (on 3 2010000) fine
    ∷ at (on 10 2010000) fine
    ∷ at (on 11 2010000) refusal.range
    ∷ at (on 8 1) refusal.range
    ∷ at (on 8 1979999) refusal.range
    ∷ at (on 8 1980000) fine
    ∷ at (on 8 2100000) fine
    ∷ at (on 8 2100001) refusal.range
    ∷ (coordinates (less 640000000000) fine ++ coordinates (less 640000000001) refusal.range)
    ++ (coordinates (pos 640000000000) fine ++ coordinates (pos 640000000001) refusal.range)

-- ---- a step: the numbers of each kind, both ends and one past them
abbrev bursa_wolf : ℤ → ℤ → ℤ → ℤ → ℤ → ℤ → ℤ → Kind
bursa_wolf dx dy dz rx ry rz s = BursaWolf (record { convention = PositionVector; dx = dx; dy = dy; dz = dz; rx = rx; ry = ry; rz = rz; s = s })

abbrev step : Kind → Realization → Realization → ℕ
step kind r a = step_fault (pos 2021) (record { kind = kind; before = r; after = a })

abbrev ends : (ℤ → Kind) → ℕ → List RangeCase
ends kind most =
    by (step (kind (less most)) (on 8 2010000) (on 8 2020000)) fine
    ∷ by (step (kind (less (suc most))) (on 8 2010000) (on 8 2020000)) refusal.range
    ∷ by (step (kind (pos most)) (on 8 2010000) (on 8 2020000)) fine
    ∷ by (step (kind (pos (suc most))) (on 8 2010000) (on 8 2020000)) refusal.range
    ∷ []

abbrev o : ℤ
o = pos 0

abbrev pub number_cases : List RangeCase
number_cases =
    ends (λ n. shift n o o) 100000000
    ++ ends (λ n. shift o n o) 100000000
    ++ ends (λ n. shift o o n) 100000000
    ++ ends (λ n. velocity n o o) 10000
    ++ ends (λ n. velocity o n o) 10000
    ++ ends (λ n. velocity o o n) 10000
    ++ ends (λ n. bursa_wolf n o o o o o o) 100000000
    ++ ends (λ n. bursa_wolf o n o o o o o) 100000000
    ++ ends (λ n. bursa_wolf o o n o o o o) 100000000
    ++ ends (λ n. bursa_wolf o o o n o o o) 1000000
    ++ ends (λ n. bursa_wolf o o o o n o o) 1000000
    ++ ends (λ n. bursa_wolf o o o o o n o) 1000000
    ++ ends (λ n. bursa_wolf o o o o o o n) 2000000

-- ---- a step's datums and epochs, before and after, and the rules of V and F (4)
abbrev still : Kind
still = shift o o o

abbrev pub realization_cases : List RangeCase
realization_cases =
    by (step still (on 0 2010000) (on 8 2010000)) refusal.range
    ∷ by (step still (on 11 2010000) (on 8 2010000)) refusal.range
    ∷ by (step still (on 8 2010000) (on 0 2010000)) refusal.range
    ∷ by (step still (on 8 2010000) (on 11 2010000)) refusal.range
    ∷ by (step still (on 8 1979999) (on 8 2010000)) refusal.range
    ∷ by (step still (on 8 2010000) (on 8 2100001)) refusal.range
    ∷ by (step still (on 1 0) (on 10 2100000)) fine
    ∷ by (step still (on 2 1980000) (on 8 2010000)) refusal.epoch
    ∷ by (step still (on 8 2010000) (on 3 0)) refusal.epoch
    ∷ by (step (velocity o o o) (on 8 2010000) (on 7 2020000)) refusal.kind
    ∷ by (step (velocity o o o) (on 1 0) (on 1 0)) refusal.kind
    ∷ by (step Frame (on 4 2010000) (on 10 2010000)) refusal.kind
    ∷ by (step Frame (on 5 2010000) (on 10 2010000)) fine
    ∷ by (step Frame (on 9 2010000) (on 10 2010000)) fine
    ∷ by (step Frame (on 10 2010000) (on 10 2010000)) refusal.kind
    ∷ by (step Frame (on 9 2010000) (on 9 2010000)) refusal.kind
    ∷ by (step Frame (on 9 2010000) (on 10 2010001)) refusal.kind
    ∷ []

abbrev pub range_cases : List RangeCase
range_cases = point_cases ++ (number_cases ++ realization_cases)

abbrev pub RangeCases : Type 0
RangeCases = map (λ (f : RangeCase). f.found) range_cases ≡ map (λ (f : RangeCase). f.wanted) range_cases
