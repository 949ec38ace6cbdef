-- Cases that pin the figures of the steps, worked out from document 01 in exact fractions: the ITRF row of each datum that takes one, at its own epoch and at
-- another; the epoch that the rates count from; the rotation's factor to its last digit; three candidates and no other number of them; and the area, asked of
-- the last one alone.
use Rattle.std.specs.Prelude.{◌≡◌, List, [], ◌∷◌, map, ℕ, ℤ, pos, Err}
use Rattle.refusal.specs.Numbers as refusal
use Rattle.chain.specs.declared.Position.{Position}
use Rattle.chain.specs.declared.Convention.{Convention}
use Rattle.chain.specs.declared.Convention.TheVariants.{PositionVector, CoordinateFrame}
use Rattle.chain.specs.declared.Kind.{Kind}
use Rattle.chain.specs.declared.Kind.TheVariants.{BursaWolf, Frame}
use Rattle.chain.specs.Case.{less, on, xyz, forward, inverse, Case, answer, expected, case}
use Rattle.cases.specs.Cases.{a1}

-- ---- frames
abbrev frame : ℕ → ℕ → Position → Case
frame datum epoch found = case forward Frame (on datum epoch) (on 10 epoch) a1 found

abbrev pub frame_cases : List Case
frame_cases =
    -- ITRF2000: T and D where the rates count for nothing
    frame 5 2010000 (xyz (less 113105165240) (pos 623631178508) (pos 71174813599))
    ∷ frame 6 2010000 (xyz (less 113105165240) (pos 623631178508) (pos 71174813599))
    ∷ frame 7 2010000 (xyz (less 113105165240) (pos 623631178508) (pos 71174813599))
    ∷ frame 8 2010000 (xyz (less 113105165240) (pos 623631178508) (pos 71174813599))
    -- and with its rates
    ∷ frame 5 1985500 (xyz (less 113105165300) (pos 623631180434) (pos 71174809136))
    ∷ frame 6 2030250 (xyz (less 113105165191) (pos 623631176916) (pos 71174817288))
    ∷ frame 7 1999999 (xyz (less 113105165265) (pos 623631179294) (pos 71174811777))
    ∷ frame 8 2100000 (xyz (less 113105165020) (pos 623631171434) (pos 71174829994))
    -- ITRF2008
    ∷ frame 9 2010000 (xyz (less 113105165572) (pos 623631179772) (pos 71174810901))
    ∷ frame 9 2031750 (xyz (less 113105165498) (pos 623631179366) (pos 71174811072))
    -- back
    ∷ case inverse Frame (on 5 1985500) (on 10 1985500) a1 (xyz (less 113105165520) (pos 623631179466) (pos 71174813144))
    ∷ case inverse Frame (on 9 2031750) (on 10 2031750) a1 (xyz (less 113105165322) (pos 623631180534) (pos 71174811208))
    -- counted from a thousandth of a year later Y is a unit more, from one earlier Z is
    ∷ case forward Frame (on 5 2010000) (on 10 2010000)
    (xyz (less 168607571761) (pos 545998696980) (pos 34257754828)) (xyz (less 168607571474) (pos 545998695702) (pos 34257757365))
    ∷ []

-- ---- rotations: 425,024 is 2,060,575 of 10^-11 radian, and by a factor of a digit less 2,060,574; 579,222 is 2,808,147, and by a digit more 2,808,148
abbrev about : Convention → ℤ → ℤ → Kind
about way rx rz = BursaWolf (record { convention = way; dx = pos 0; dy = pos 0; dz = pos 0; rx = rx; ry = pos 0; rz = rz; s = pos 0 })

abbrev pub factor_cases : List Case
factor_cases =
    case forward (about PositionVector (pos 0) (pos 425024)) (on 1 0) (on 2 0) a1 (xyz (less 113118015798) (pos 623628849333) (pos 71174811140))
    ∷ case forward (about CoordinateFrame (pos 425024) (pos 0)) (on 1 0) (on 2 0) a1 (xyz (less 113105165410) (pos 623632646560) (pos 71161960752))
    ∷ case forward (about PositionVector (pos 0) (pos 579222)) (on 1 0) (on 2 0) a1 (xyz (less 113122677890) (pos 623628003791) (pos 71174811140))
    ∷ case forward (about CoordinateFrame (pos 579222) (pos 0)) (on 1 0) (on 2 0) a1 (xyz (less 113105165410) (pos 623633178643) (pos 71157298660))
    ∷ []

-- ---- candidates: all seven numbers at an end of their ranges
abbrev at_limits : Convention → ℤ → ℤ → ℤ → ℤ → ℤ → ℤ → ℤ → Kind
at_limits way dx dy dz rx ry rz s = BursaWolf (record { convention = way; dx = dx; dy = dy; dz = dz; rx = rx; ry = ry; rz = rz; s = s })

abbrev d : ℕ
d = 100000000

abbrev r : ℕ
r = 1000000

-- the first is (-244663567063, 606069858480, 73888602200), the second a unit off on X, the fourth and all after it a unit off on Y
abbrev pub candidate_cases : List Case
candidate_cases =
    case inverse (at_limits PositionVector (pos d) (less d) (pos d) (pos r) (less r) (pos r) (pos 2000000)) (on 1 0) (on 2 0)
    (xyz (less 244601425829) (pos 605966530899) (pos 74007602178)) (xyz (less 244663566581) (pos 606069853656) (pos 73888602583))
    -- Z of the second is -1, which is outside the area, and of the third 0
    ∷ case inverse (at_limits PositionVector (less d) (pos d) (pos d) (less r) (less r) (less r) (pos 2000000)) (on 1 0) (on 2 0)
    (xyz (less 229759216039) (pos 560204293214) (pos 61710406)) (xyz (less 229681776487) (pos 560081956065) (pos 0))
    -- X of the first and of the second is past the eastern end, and of the third at it
    ∷ case inverse (at_limits CoordinateFrame (less d) (pos d) (pos d) (pos r) (pos r) (less r) (pos 2000000)) (on 1 0) (on 2 0)
    (xyz (less 90133517671) (pos 612171103850) (pos 42216441440)) (xyz (less 90000000000) (pos 612061182524) (pos 42149636016))
    ∷ []

-- Z of the first is 12,608 and of the second 0, both in the area, and of the third -1
abbrev leaving : Case
leaving =
    case inverse (at_limits CoordinateFrame (pos d) (pos d) (pos d) (pos r) (less r) (pos r) (less 2000000)) (on 1 0) (on 2 0)
    (xyz (less 154800315998) (pos 603164903204) (pos 78274148)) (xyz (less 154932651699) (pos 603069453396) (less 1))

pub record FigureCases : Type 0 where
  pub frames : map answer frame_cases ≡ map expected frame_cases
  pub factor : map answer factor_cases ≡ map expected factor_cases
  pub candidates : map answer candidate_cases ≡ map expected candidate_cases
  pub last : answer leaving ≡ Err refusal.left
