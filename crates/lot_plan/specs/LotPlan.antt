-- A line of the lot plan: the chain's text, the point's line, the conversion, latitude and longitude, Cassini, one after another, each by its own definition.
-- The first that refuses decides.
use Rattle.std.specs.Prelude.{ℕ, Bool, true, false, List, [], ◌∷◌, ◌++◌, eqb, leb, ℤ, length, get_or, Result, Ok, Err}
use Rattle.refusal.specs.Numbers as refusal
use Rattle.refusal.specs.Order.{pick, first, unless}
use Rattle.chain.specs.declared.Step.{Step}
use Rattle.chain.specs.declared.Label.{Label}
use Rattle.chain.specs.declared.Point.{Point}
use Rattle.chain.specs.declared.Chain.{Chain}
use Rattle.chain.specs.Faults.{latest, profile_fault}
use Rattle.chain.specs.Convert.{more_tests, forward_of}
use Rattle.chain.specs.Prepared.{chain_of}
use Rattle.angle.specs.declared.OriginNumbers.{OriginNumbers}
use Rattle.angle.specs.declared.Angles.{Angles}
use Rattle.angle.specs.declared.Millimetres.{Millimetres}
use Rattle.angle.specs.Geodetic.{geodetic_units_of}
use Rattle.angle.specs.Cassini.{cassini_millimetres_of}
use Rattle.line.specs.Answers.{Fault, Line, Good, Malformed, Refused}
use Rattle.line.specs.Bytes.{letter_s, letter_e}
use Rattle.line.specs.Lines.{lines}
use Rattle.line.specs.Readers.{strange_fault, read_point, read_step, read_edition}
use Rattle.lot_plan.specs.declared.Lot.{Lot}

-- ---- the chain's text
-- a chain, by its profile and its steps; or the number of the first refused line
pub data Chained : Type 0 where
  chain : ℤ → List Step → Chained
  refused : ℕ → Chained

-- an S line after these steps: its form, 2, 3, 25, 4 by itself, then 5, 6
abbrev pub with_step : ℤ → List Step → Line Step → Chained
with_step y ss (Malformed f) = refused f.number
with_step y ss (Refused n) = refused n
with_step y ss (Good s) = unless (first (more_tests ss s)) refused (chain y (ss ++ (s ∷ [])))

-- an E line: its form; 7 on any line but the first; 2 for a year that is no edition's
abbrev pub with_edition : Bool → Result ℤ Fault → Chained
with_edition isFirst (Err f) = refused f.number
with_edition isFirst (Ok y) = pick isFirst (unless (profile_fault y) refused (chain y [])) (refused refusal.misplaced)

-- one line, by its first byte. Any but these two is strange here: 18, 19
unfoldable pub with_line : Bool → ℤ → List Step → List ℕ → Chained
with_line isFirst y ss line =
    pick (eqb (get_or line 0 0) letter_s) (with_step y ss (read_step y line))
    (pick (eqb (get_or line 0 0) letter_e) (with_edition isFirst (read_edition line)) (refused (strange_fault line).number))

-- the next lines, where this one was taken
abbrev pub onward : Chained → (ℤ → List Step → Chained) → Chained
onward (chain y ss) next = next y ss
onward (refused n) next = refused n

unfoldable pub with_lines : Bool → ℤ → List Step → List (List ℕ) → Chained
with_lines isFirst y ss [] = chain y ss
with_lines isFirst y ss (l ∷ ls) = onward (with_line isFirst y ss l) (λ z ts. with_lines false z ts ls)

-- no line at all is the empty chain under the latest edition
unfoldable pub chain_text : List ℕ → Chained
chain_text text = with_lines true latest [] (lines text)

-- ---- the parts, one after another: each goes on with the next, or is refused
-- a lot, or the number of the refusal
abbrev pub Laid : Type 0
Laid = Result Lot ℕ

abbrev pub on_chain : Chained → (ℤ → List Step → Laid) → Laid
on_chain (refused n) next = Err n
on_chain (chain y ss) next = next y ss

abbrev pub on_point : Line Point → (Point → Laid) → Laid
on_point (Malformed f) next = Err f.number
on_point (Refused n) next = Err n
on_point (Good p) next = next p

abbrev pub on_answer : Result Point ℕ → (Point → Laid) → Laid
on_answer (Err n) next = Err n
on_answer (Ok p) next = next p

-- the height is not asked for any more
abbrev pub on_geodetic : Result Angles ℕ → (ℤ → ℤ → Laid) → Laid
on_geodetic (Err n) next = Err n
on_geodetic (Ok at) next = next at.latitude at.longitude

abbrev pub on_plane : Result Millimetres ℕ → (ℤ → ℤ → Laid) → Laid
on_plane (Err n) next = Err n
on_plane (Ok at) next = next at.easting at.northing

-- latitude and longitude, onto the grid
abbrev pub laid_at : OriginNumbers → Label → ℤ → ℤ → Laid
laid_at o l latitude longitude = on_plane (cassini_millimetres_of o latitude longitude) (λ e n. Ok (record { label = l; easting = e; northing = n }))

-- a point, its position to latitude and longitude on the origin's ellipsoid, and then that
abbrev pub laid_from : OriginNumbers → Point → Laid
laid_from o p = on_geodetic (geodetic_units_of o.ellipsoid p.position.x p.position.y p.position.z) (laid_at o p.label)

-- a point, along the chain, and then that
abbrev pub laid_along : OriginNumbers → Chain → Point → Laid
laid_along o c p = on_answer (forward_of c p) (laid_from o)

-- a point line under the chain's profile, and then that
abbrev pub laid_of : OriginNumbers → List ℕ → ℤ → List Step → Laid
laid_of o point y ss = on_point (read_point y point) (laid_along o (chain_of y ss))

-- the chain's text, and then that
unfoldable pub lot_of : List ℕ → List ℕ → OriginNumbers → Laid
lot_of text point o = on_chain (chain_text text) (laid_of o point)

-- ---- the call
-- an origin by its numbers
abbrev pub origin_from : ℤ → ℤ → ℤ → ℤ → ℤ → OriginNumbers
origin_from code latitude longitude e n = record {
  ellipsoid = code;
  latitude = latitude;
  longitude = longitude;
  false_easting = e;
  false_northing = n;
}

-- the least room that the tracker lends
abbrev pub least : ℕ
least = 200

-- 27 before everything
unfoldable pub lot_plan_of : List ℕ → List ℕ → OriginNumbers → List ℕ → Laid
lot_plan_of text point o out = pick (leb least (length out)) (lot_of text point o) (Err refusal.buffer)
