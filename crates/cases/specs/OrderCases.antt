-- The order of refusals by value: a case for each test of the order, in which that one fails and every later one that can; and what the edition of 2009 has.
use Rattle.std.specs.Prelude.{◌≡◌, List, [], ◌∷◌, map, ℕ, ℤ, pos, replicate, Ok, Err}
use Rattle.refusal.specs.Numbers as refusal
use Rattle.chain.specs.declared.Position.{Position}
use Rattle.chain.specs.declared.Realization.{Realization}
use Rattle.chain.specs.declared.Point.{Point}
use Rattle.chain.specs.declared.Kind.{Kind}
use Rattle.chain.specs.declared.Kind.TheVariants.{Frame}
use Rattle.chain.specs.declared.Step.{Step}
use Rattle.chain.specs.Convert.{Answer, forward_of, inverse_of}
use Rattle.chain.specs.Prepared.{chain_of}
use Rattle.chain.specs.Case.{less, on, xyz, shift, velocity}
use Rattle.cases.specs.Cases.{a1}
use Rattle.cases.specs.MoreCases.{Trial, trial}

abbrev step : Kind → Realization → Realization → Step
step kind r a = record { kind = kind; before = r; after = a }

abbrev point : ℤ → Realization → Position → Point
point issue r p = record { label = record { id = record { high = 0x4131_0000_0000_0000; low = 0 }; issue = issue; order = pos 1 }; realization = r; position = p }

-- ---- steps: one that is refused for nothing, and velocities with ever fewer faults
abbrev good : Step
good = step (shift (pos 0) (pos 0) (pos 0)) (on 8 2010000) (on 8 2020000)

-- out of range, epoch 2010000 for datum 1, another datum after, and it joins nothing
abbrev out_of_range : Step
out_of_range = step (velocity (pos 10001) (pos 0) (pos 0)) (on 1 2010000) (on 2 0)

abbrev wrong_epoch : Step
wrong_epoch = step (velocity (pos 10000) (pos 0) (pos 0)) (on 1 2010000) (on 2 0)

abbrev wrong_kind : Step
wrong_kind = step (velocity (pos 10000) (pos 0) (pos 0)) (on 7 2020000) (on 6 2010000)

abbrev joins_nothing : Step
joins_nothing = step (velocity (pos 10000) (pos 0) (pos 0)) (on 7 2020000) (on 7 2010000)

-- a hundred thousand units east: out of the area from its eastern end
abbrev away : Step
away = step (shift (pos 100000) (pos 0) (pos 0)) (on 8 2010000) (on 8 2020000)

-- ---- points, with ever fewer faults
abbrev earths_centre : Position
earths_centre = xyz (pos 0) (pos 0) (pos 0)

abbrev out_of_range_too : Point
out_of_range_too = point (pos 0) (on 1 2010000) earths_centre

abbrev wrong_epoch_too : Point
wrong_epoch_too = point (pos 1) (on 1 2010000) earths_centre

abbrev elsewhere : Point
elsewhere = point (pos 1) (on 7 2010000) earths_centre

-- at datum 8 and epoch e
abbrev far : ℤ → Point
far e = point (pos 1) (record { datum = pos 8; epoch = e }) earths_centre

abbrev at_end : ℤ → ℤ → Point
at_end e x = point (pos 1) (record { datum = pos 8; epoch = e }) (xyz x (pos 600000000000) (pos 50000000000))

-- ---- under the edition of 2009
abbrev under : ℤ → List Step → Point → Answer
under y ss p = forward_of (chain_of y ss) p

abbrev back_under : ℤ → List Step → Point → Answer
back_under y ss p = inverse_of (chain_of y ss) p

-- a shift from a datum to a datum, and a point there
abbrev between : ℕ → ℕ → Step
between d d' = step (shift (pos 0) (pos 0) (pos 0)) (on d 2010000) (on d' 2010000)

abbrev frame : Step
frame = step Frame (on 5 2010000) (on 10 2010000)

abbrev there : ℕ → Point
there d = point (pos 1) (on d 2010000) a1

-- ---- the order, by either way over the chain
abbrev over : List Step → Point → Answer
over ss p = under (pos 2021) ss p

abbrev back : List Step → Point → Answer
back ss p = back_under (pos 2021) ss p

abbrev pub order_cases : List Trial
order_cases =
    trial (over (replicate 9 out_of_range) out_of_range_too) (Err refusal.ninth)
    ∷ trial (over (good ∷ out_of_range ∷ wrong_epoch ∷ []) out_of_range_too) (Err refusal.range)
    ∷ trial (over (good ∷ wrong_epoch ∷ out_of_range ∷ []) out_of_range_too) (Err refusal.epoch)
    ∷ trial (over (good ∷ wrong_kind ∷ out_of_range ∷ []) out_of_range_too) (Err refusal.kind)
    ∷ trial (over (good ∷ joins_nothing ∷ out_of_range ∷ []) out_of_range_too) (Err refusal.join)
    ∷ trial (over (away ∷ []) out_of_range_too) (Err refusal.range)
    ∷ trial (over (away ∷ []) wrong_epoch_too) (Err refusal.epoch)
    ∷ trial (over (away ∷ []) elsewhere) (Err refusal.start)
    ∷ trial (over (away ∷ []) (far (pos 2010000))) (Err refusal.area)
    ∷ trial (over (away ∷ []) (at_end (pos 2010000) (less 90000000000))) (Err refusal.left)
    ∷ trial (back (replicate 9 out_of_range) out_of_range_too) (Err refusal.ninth)
    ∷ trial (back (good ∷ out_of_range ∷ wrong_epoch ∷ []) out_of_range_too) (Err refusal.range)
    ∷ trial (back (good ∷ wrong_epoch ∷ out_of_range ∷ []) out_of_range_too) (Err refusal.epoch)
    ∷ trial (back (good ∷ wrong_kind ∷ out_of_range ∷ []) out_of_range_too) (Err refusal.kind)
    ∷ trial (back (good ∷ joins_nothing ∷ out_of_range ∷ []) out_of_range_too) (Err refusal.join)
    ∷ trial (back (away ∷ []) out_of_range_too) (Err refusal.range)
    ∷ trial (back (away ∷ []) wrong_epoch_too) (Err refusal.epoch)
    ∷ trial (back (away ∷ []) (far (pos 2010000))) (Err refusal.start)
    ∷ trial (back (away ∷ []) (far (pos 2020000))) (Err refusal.area)
    ∷ trial (back (away ∷ []) (at_end (pos 2020000) (less 330000000000))) (Err refusal.left)
    -- the empty chain starts wherever the point is: the area decides
    ∷ trial (over [] (far (pos 2010000))) (Err refusal.area)
    ∷ trial (back [] (far (pos 2010000))) (Err refusal.area)
    -- the mark before the length; a step's 25 after 2 and 3, before 4
    ∷ trial (under (pos 2010) (replicate 9 out_of_range) out_of_range_too) (Err refusal.range)
    ∷ trial (back_under (pos 2010) (replicate 9 out_of_range) out_of_range_too) (Err refusal.range)
    ∷ trial (under (pos 2009) (replicate 9 out_of_range) out_of_range_too) (Err refusal.ninth)
    ∷ trial (under (pos 2009) (out_of_range ∷ []) out_of_range_too) (Err refusal.range)
    ∷ trial (under (pos 2009) (wrong_epoch ∷ []) out_of_range_too) (Err refusal.epoch)
    ∷ trial (under (pos 2009) (wrong_kind ∷ []) out_of_range_too) (Err refusal.profile)
    ∷ trial (under (pos 2009) (between 5 7 ∷ joins_nothing ∷ []) out_of_range_too) (Err refusal.profile)
    ∷ trial (under (pos 2009) (frame ∷ []) (there 5)) (Err refusal.profile)
    ∷ trial (under (pos 2009) (between 6 7 ∷ []) (there 6)) (Err refusal.profile)
    ∷ trial (under (pos 2009) (between 7 8 ∷ []) (there 7)) (Err refusal.profile)
    -- a point's after 3, before 9, also under an empty chain
    ∷ trial (under (pos 2009) (between 5 7 ∷ []) out_of_range_too) (Err refusal.range)
    ∷ trial (under (pos 2009) (between 5 7 ∷ []) wrong_epoch_too) (Err refusal.epoch)
    ∷ trial (under (pos 2009) (between 5 7 ∷ []) (there 6)) (Err refusal.profile)
    ∷ trial (under (pos 2009) (between 5 7 ∷ []) elsewhere) (Err refusal.start)
    ∷ trial (under (pos 2009) [] (there 6)) (Err refusal.profile)
    ∷ trial (back_under (pos 2009) [] (there 9)) (Err refusal.profile)
    -- what it has
    ∷ trial (under (pos 2009) (between 3 4 ∷ between 4 5 ∷ between 5 7 ∷ []) (there 3)) (Ok (there 7))
    ∷ trial (back_under (pos 2009) (between 5 7 ∷ []) (there 7)) (Ok (there 5))
    ∷ trial (under (pos 2021) (between 6 9 ∷ []) (there 6)) (Ok (there 9))
    ∷ []

abbrev pub OrderCases : Type 0
OrderCases = map (λ (t : Trial). t.answered) order_cases ≡ map (λ (t : Trial). t.wanted) order_cases
