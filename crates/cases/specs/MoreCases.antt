-- More worked cases beside the ten, worked out by the independent program of compare/: every figure of both ITRF rows, on every axis and at an epoch where its
-- rate counts; Bursa-Wolf with all seven numbers by either convention; and both ends of the area.
use Rattle.std.specs.Prelude.{◌≡◌, List, [], ◌∷◌, map, ℤ, pos, Ok, Err}
use Rattle.refusal.specs.Numbers as refusal
use Rattle.chain.specs.declared.Position.{Position}
use Rattle.chain.specs.declared.Convention.{Convention}
use Rattle.chain.specs.declared.Convention.TheVariants.{PositionVector, CoordinateFrame}
use Rattle.chain.specs.declared.Kind.{Kind}
use Rattle.chain.specs.declared.Kind.TheVariants.{BursaWolf, Frame}
use Rattle.chain.specs.Convert.{Answer}
use Rattle.chain.specs.Case.{less, on, xyz, point, shift, velocity, Way, forward, inverse, Case, answer, expected, case}
use Rattle.cases.specs.Cases.{a1}

-- ---- conversions
abbrev bursa_wolf : Convention → Kind
bursa_wolf way =
    BursaWolf
    (record {
      convention = way;
      dx = less 1123456;
      dy = pos 2234567;
      dz = less 345678;
      rx = pos 12345;
      ry = less 67891;
      rz = pos 23456;
      s = less 198765;
    })

-- rotations and scale alone
abbrev turning : Convention → ℤ → ℤ → ℤ → ℤ → Kind
turning way rx ry rz s = BursaWolf (record { convention = way; dx = pos 0; dy = pos 0; dz = pos 0; rx = rx; ry = ry; rz = rz; s = s })

-- shifts on X and Z, and a scale
abbrev shifted : ℤ → ℤ → ℤ → Kind
shifted dx dz s = BursaWolf (record { convention = PositionVector; dx = dx; dy = pos 0; dz = dz; rx = pos 0; ry = pos 0; rz = pos 0; s = s })

abbrev pub more_cases : List Case
more_cases =
    -- ITRF2000 ten years after its epoch, ITRF2008 ten years before it
    case forward Frame (on 6 2020000) (on 10 2020000) a1 (xyz (less 113105165216) (pos 623631177722) (pos 71174815421))
    ∷ case inverse Frame (on 6 2020000) (on 10 2020000) a1 (xyz (less 113105165604) (pos 623631182178) (pos 71174806859))
    ∷ case forward Frame (on 9 2000000) (on 10 2000000) a1 (xyz (less 113105165606) (pos 623631179960) (pos 71174810823))
    ∷ case inverse Frame (on 9 2000000) (on 10 2000000) a1 (xyz (less 113105165214) (pos 623631179940) (pos 71174811457))
    -- all seven numbers, by either convention
    ∷ case forward (bursa_wolf PositionVector) (on 1 0) (on 2 0) a1 (xyz (less 113107007501) (pos 623632003737) (pos 71174324956))
    ∷ case inverse (bursa_wolf PositionVector) (on 1 0) (on 2 0) a1 (xyz (less 113103323315) (pos 623630356159) (pos 71175297320))
    ∷ case forward (bursa_wolf CoordinateFrame) (on 1 0) (on 2 0) a1 (xyz (less 113105120604) (pos 623632346176) (pos 71174323027))
    ∷ case inverse (bursa_wolf CoordinateFrame) (on 1 0) (on 2 0) a1 (xyz (less 113105210216) (pos 623630013722) (pos 71175299253))
    -- the scale on the rotations: both at their limits, 4,848,137 becomes 4,848,234
    ∷ case forward (turning PositionVector (pos 1000000) (less 1000000) (pos 1000000) (pos 2000000)) (on 1 0) (on 2 0) a1
    (xyz (less 113141113334) (pos 623634718249) (pos 71200986132))
    ∷ case inverse (turning CoordinateFrame (pos 1000000) (less 1000000) (pos 1000000) (pos 2000000)) (on 1 0) (on 2 0) a1
    (xyz (less 113136588591) (pos 623609770776) (pos 71198136112))
    -- an exact half of the second rounding: 13,201 is 64,000 of 10^-11 radian, and with the scale 64,000.5, which is 64,000 again
    ∷ case forward (turning PositionVector (pos 0) (pos 0) (pos 13201) (pos 781250)) (on 1 0) (on 2 0) a1
    (xyz (less 113106448168) (pos 623635979681) (pos 71175367193))
    ∷ case forward (turning CoordinateFrame (pos 0) (pos 0) (pos 13201) (pos 781250)) (on 1 0) (on 2 0) a1
    (xyz (less 113105649920) (pos 623636124456) (pos 71175367193))
    -- halves to the even number: velocities of 3, −3 and 5 over 500 thousandths are 2, −2 and 2
    ∷ case forward (velocity (pos 3) (less 3) (pos 5)) (on 8 2010000) (on 8 2010500) a1 (xyz (less 113105165408) (pos 623631179948) (pos 71174811142))
    ∷ case inverse (velocity (pos 3) (less 3) (pos 5)) (on 8 2010000) (on 8 2010500) a1 (xyz (less 113105165412) (pos 623631179952) (pos 71174811138))
    -- and the parity is that of the whole part: 7 − 5.5 is 1.5 and gives 2, 1 + 2.5 is 3.5 and gives 4
    ∷ case forward (shifted (pos 7) (pos 1) (pos 5)) (on 1 0) (on 2 0) (xyz (less 110000000000) (pos 600000000000) (pos 50000000000)) (xyz (less 109999999998) (pos 600000000030) (pos 50000000004))
    ∷ case inverse (shifted (pos 7) (pos 1) (pos 5)) (on 1 0) (on 2 0) (xyz (less 110000000000) (pos 600000000000) (pos 50000000000)) (xyz (less 110000000001) (pos 599999999970) (pos 49999999997))
    ∷ []

-- ---- the area: its ends are in it, one unit past an end is outside it, and a step of one unit from an end leaves it
pub record Trial : Type 0 where
  pub answered : Answer
  pub wanted : Answer

abbrev pub trial : Answer → Answer → Trial
trial a w = record { answered = a; wanted = w }

abbrev low : Position
low = xyz (less 330000000000) (pos 540000000000) (pos 0)

abbrev high : Position
high = xyz (less 90000000000) (pos 640000000000) (pos 90000000000)

-- a point moved so far on each axis, by a step of datum 8
abbrev moved : Way → Position → ℤ → ℤ → ℤ → Answer
moved way p dx dy dz = answer (case way (shift dx dy dz) (on 8 2010000) (on 8 2020000) p p)

abbrev stays : Way → Position → Trial
stays way p = trial (moved way p (pos 0) (pos 0) (pos 0)) (expected (case way (shift (pos 0) (pos 0) (pos 0)) (on 8 2010000) (on 8 2020000) p p))

abbrev outside : Position → Trial
outside p = trial (moved forward p (pos 0) (pos 0) (pos 0)) (Err refusal.area)

abbrev leaves : Way → Position → ℤ → ℤ → ℤ → Trial
leaves way p dx dy dz = trial (moved way p dx dy dz) (Err refusal.left)

abbrev pub area_cases : List Trial
area_cases =
    stays forward low
    ∷ stays forward high
    ∷ stays inverse low
    ∷ stays inverse high
    ∷ outside (xyz (less 330000000001) (pos 540000000000) (pos 0))
    ∷ outside (xyz (less 330000000000) (pos 539999999999) (pos 0))
    ∷ outside (xyz (less 330000000000) (pos 540000000000) (less 1))
    ∷ outside (xyz (less 89999999999) (pos 640000000000) (pos 90000000000))
    ∷ outside (xyz (less 90000000000) (pos 640000000000) (pos 90000000001))
    ∷ leaves forward low (less 1) (pos 0) (pos 0)
    ∷ leaves forward low (pos 0) (less 1) (pos 0)
    ∷ leaves forward low (pos 0) (pos 0) (less 1)
    ∷ leaves forward high (pos 1) (pos 0) (pos 0)
    ∷ leaves forward high (pos 0) (pos 1) (pos 0)
    ∷ leaves forward high (pos 0) (pos 0) (pos 1)
    ∷ leaves inverse low (pos 1) (pos 0) (pos 0)
    ∷ leaves inverse high (pos 0) (less 1) (pos 0)
    ∷ []

pub record MoreCases : Type 0 where
  pub conversions : map answer more_cases ≡ map expected more_cases
  pub area : map (λ (t : Trial). t.answered) area_cases ≡ map (λ (t : Trial). t.wanted) area_cases
