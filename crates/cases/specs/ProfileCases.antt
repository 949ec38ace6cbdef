-- What each edition has, one by one: points and steps on each datum, and each kind of step. 0 for no fault, or the number that the table gives.
use Rattle.std.specs.Prelude.{◌≡◌, List, [], ◌∷◌, ◌++◌, map, ℕ, ℤ, pos}
use Rattle.refusal.specs.Numbers as refusal
use Rattle.chain.specs.declared.Realization.{Realization}
use Rattle.chain.specs.declared.Convention.TheVariants.{PositionVector}
use Rattle.chain.specs.declared.Kind.{Kind}
use Rattle.chain.specs.declared.Kind.TheVariants.{BursaWolf, Frame}
use Rattle.chain.specs.Faults.{point_fault, step_fault}
use Rattle.chain.specs.Case.{on, point, shift, velocity}
use Rattle.cases.specs.Cases.{a1}
use Rattle.cases.specs.RangeCases.{RangeCase, by, fine}

abbrev still : Kind
still = shift (pos 0) (pos 0) (pos 0)

abbrev turning : Kind
turning = BursaWolf (record { convention = PositionVector; dx = pos 0; dy = pos 0; dz = pos 0; rx = pos 0; ry = pos 0; rz = pos 0; s = pos 0 })

-- a datum under an edition: a point on it, a shift from it and a shift to it
abbrev datum : ℤ → Realization → ℕ → List RangeCase
datum year r wanted =
    by (point_fault year (point r a1)) wanted
    ∷ by (step_fault year (record { kind = still; before = r; after = on 5 2010000 })) wanted
    ∷ by (step_fault year (record { kind = still; before = on 5 2010000; after = r })) wanted
    ∷ []

abbrev datums : ℤ → ℕ → List RangeCase
datums year absent =
    datum year (on 1 0) fine
    ++ datum year (on 2 0) fine
    ++ datum year (on 3 2010000) fine
    ++ datum year (on 4 2010000) fine
    ++ datum year (on 5 2010000) fine
    ++ datum year (on 6 2010000) absent
    ++ datum year (on 7 2010000) fine
    ++ datum year (on 8 2010000) absent
    ++ datum year (on 9 2010000) absent
    ++ datum year (on 10 2010000) absent

-- kinds, on a datum that both have: a frame that stays there breaks its own rule (4), and 25 stands before that
abbrev kinds : ℤ → ℕ → ℕ → List RangeCase
kinds year absent broken =
    by (step_fault year (record { kind = still; before = on 5 2010000; after = on 5 2020000 })) fine
    ∷ by (step_fault year (record { kind = turning; before = on 5 2010000; after = on 5 2020000 })) fine
    ∷ by (step_fault year (record { kind = turning; before = on 1 0; after = on 2 0 })) fine
    ∷ by (step_fault year (record { kind = velocity (pos 0) (pos 0) (pos 0); before = on 5 2010000; after = on 5 2020000 })) absent
    ∷ by (step_fault year (record { kind = Frame; before = on 5 2010000; after = on 5 2010000 })) broken
    ∷ by (step_fault year (record { kind = Frame; before = on 5 2010000; after = on 10 2010000 })) absent
    ∷ []

abbrev pub profile_cases : List RangeCase
profile_cases =
    (datums (pos 2009) refusal.profile ++ datums (pos 2021) fine)
    ++ (kinds (pos 2009) refusal.profile refusal.profile ++ kinds (pos 2021) fine refusal.kind)

abbrev pub ProfileCases : Type 0
ProfileCases = map (λ (f : RangeCase). f.found) profile_cases ≡ map (λ (f : RangeCase). f.wanted) profile_cases
