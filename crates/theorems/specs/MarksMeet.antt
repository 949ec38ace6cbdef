-- That the bound on two marks says something, and can't be less: by a chain of one Bursa-Wolf step two positions one unit apart on X come to one position, and two units
-- apart they don't. Forward and inverse; worked out from document 01's formula in exact fractions.
use Rattle.std.specs.Prelude.{◌≡◌, List, [], ◌∷◌, map, ℤ, pos, Ok}
use Rattle.chain.specs.declared.Point.{Point}
use Rattle.chain.specs.declared.Chain.{Chain}
use Rattle.chain.specs.declared.Kind.{Kind}
use Rattle.chain.specs.declared.Kind.TheVariants.{BursaWolf}
use Rattle.chain.specs.declared.Convention.TheVariants.{PositionVector}
use Rattle.chain.specs.Faults.{steps_of}
use Rattle.chain.specs.Convert.{forward_of}
use Rattle.chain.specs.Case.{less, on, xyz, Case, case, forward, inverse, answer, expected}
use Rattle.theorems.specs.RoundTrip.{inexact_steps}
use Rattle.theorems.specs.MarksApart.{Beyond}

-- a scale alone
abbrev pub scaling : ℤ → Kind
scaling s =
    BursaWolf (record { convention = PositionVector; dx = pos 0; dy = pos 0; dz = pos 0; rx = pos 0; ry = pos 0; rz = pos 0; s = s })

abbrev pub meeting : List Case
meeting =
    -- forward: the first two meet, the third stays apart
    case forward (scaling (less 1999993)) (on 1 0) (on 2 0)
    (xyz (less 199999975000) (pos 600000000000) (pos 50000000000)) (xyz (less 199995975014) (pos 599988000042) (pos 49999000004))
    ∷ case forward (scaling (less 1999993)) (on 1 0) (on 2 0)
    (xyz (less 199999974999) (pos 600000000000) (pos 50000000000)) (xyz (less 199995975014) (pos 599988000042) (pos 49999000004))
    ∷ case forward (scaling (less 1999993)) (on 1 0) (on 2 0)
    (xyz (less 199999974998) (pos 600000000000) (pos 50000000000)) (xyz (less 199995975013) (pos 599988000042) (pos 49999000004))
    -- inverse, by the scale with the other sign
    ∷ case inverse (scaling (pos 1999993)) (on 1 0) (on 2 0)
    (xyz (less 199999974891) (pos 600000000000) (pos 50000000000)) (xyz (less 199995974985) (pos 599988000282) (pos 49999000023))
    ∷ case inverse (scaling (pos 1999993)) (on 1 0) (on 2 0)
    (xyz (less 199999974890) (pos 600000000000) (pos 50000000000)) (xyz (less 199995974985) (pos 599988000282) (pos 49999000023))
    ∷ case inverse (scaling (pos 1999993)) (on 1 0) (on 2 0)
    (xyz (less 199999974889) (pos 600000000000) (pos 50000000000)) (xyz (less 199995974984) (pos 599988000282) (pos 49999000023))
    ∷ []

abbrev pub MarksMeet : Type 0
MarksMeet = map answer meeting ≡ map expected meeting

-- a chain and two points to which the theorem applies: more than n apart, and neither refused
pub record Applies : Type 0 where
  pub chain : Chain
  pub p : Point
  pub q : Point
  pub p' : Point
  pub q' : Point
  pub beyond : Beyond (inexact_steps (steps_of chain)) p q
  pub one : forward_of chain p ≡ Ok p'
  pub other : forward_of chain q ≡ Ok q'
