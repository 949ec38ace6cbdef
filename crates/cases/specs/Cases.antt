-- The ten worked cases of document 01, "Proved and run", as one statement over a list.
use Rattle.std.specs.Prelude.{◌≡◌, List, [], ◌∷◌, map, ℤ, pos}
use Rattle.chain.specs.declared.Position.{Position}
use Rattle.chain.specs.declared.Convention.{Convention}
use Rattle.chain.specs.declared.Convention.TheVariants.{PositionVector, CoordinateFrame}
use Rattle.chain.specs.declared.Kind.{Kind}
use Rattle.chain.specs.declared.Kind.TheVariants.{BursaWolf, Frame}
use Rattle.chain.specs.Case.{less, on, xyz, shift, velocity, Way, forward, inverse, Case, answer, expected, case}

-- Bursa-Wolf with rz alone
abbrev about_z : Convention → ℤ → Kind
about_z way rz = BursaWolf (record { convention = way; dx = pos 0; dy = pos 0; dz = pos 0; rx = pos 0; ry = pos 0; rz = rz; s = pos 0 })

abbrev pub a1 : Position
a1 = xyz (less 113105165410) (pos 623631179950) (pos 71174811140)

abbrev pub cases : List Case
cases =
    -- 1: the A1 line
    case forward (shift (less 15832) (less 4363) (less 9706)) (on 6 2000000) (on 6 2006586) a1 (xyz (less 113105181242) (pos 623631175587) (pos 71174801434))
    -- 2: a velocity over ten years
    ∷ case forward (velocity (less 1874) (less 169) (less 502)) (on 8 2010000) (on 8 2020000)
    (xyz (less 113105187354) (pos 623631174081) (pos 71174801667)) (xyz (less 113105206094) (pos 623631172391) (pos 71174796647))
    -- 3, 4, 5: 1 and −1 over 500 thousandths are 0, a half to the even number (request A11), and so is 1 over 499
    ∷ case forward (velocity (pos 1) (pos 0) (pos 0)) (on 8 2010000) (on 8 2010500) a1 a1
    ∷ case forward (velocity (less 1) (pos 0) (pos 0)) (on 8 2010000) (on 8 2010500) a1 a1
    ∷ case forward (velocity (pos 1) (pos 0) (pos 0)) (on 8 2010000) (on 8 2010499) a1 a1
    -- 6, 7: a frame from datum 9, and back to its start
    ∷ case forward Frame (on 9 2010000) (on 10 2010000)
    (xyz (less 113105187200) (pos 623631173600) (pos 71174802510)) (xyz (less 113105187362) (pos 623631173422) (pos 71174802271))
    ∷ case inverse Frame (on 9 2010000) (on 10 2010000)
    (xyz (less 113105187362) (pos 623631173422) (pos 71174802271)) (xyz (less 113105187200) (pos 623631173600) (pos 71174802510))
    -- 8, 9: one second about Z by either convention
    ∷ case forward (about_z PositionVector (pos 100000)) (on 1 0) (on 2 0)
    (xyz (less 200000000000) (pos 600000000000) (pos 50000000000)) (xyz (less 200002908884) (pos 599999030372) (pos 50000000000))
    ∷ case forward (about_z CoordinateFrame (pos 100000)) (on 1 0) (on 2 0)
    (xyz (less 200000000000) (pos 600000000000) (pos 50000000000)) (xyz (less 199997091116) (pos 600000969628) (pos 50000000000))
    -- 10: back from 8 to its start
    ∷ case inverse (about_z PositionVector (pos 100000)) (on 1 0) (on 2 0)
    (xyz (less 200002908884) (pos 599999030372) (pos 50000000000)) (xyz (less 200000000000) (pos 600000000000) (pos 50000000000))
    ∷ []

-- every case's answer is the one expected
abbrev pub WorkedCases : Type 0
WorkedCases = map answer cases ≡ map expected cases
