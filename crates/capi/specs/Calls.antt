-- The calls of the C interface: what each answers, by the definitions of the libraries. A refusal gives its number, an answer its
-- numbers in order.
use Rattle.std.specs.Prelude.{ℕ, List, [], ◌∷◌, eqb, ℤ, pos, Float, length, Result, Ok, Err}
use Rattle.rounding.specs.Decimals.{Rounded, rounded_of}
use Rattle.chain.specs.declared.Point.{Point}
use Rattle.chain.specs.declared.Chain.{Chain}
use Rattle.chain.specs.Convert.{Answer, forward_of, inverse_of}
use Rattle.angle.specs.declared.OriginNumbers.{OriginNumbers}
use Rattle.angle.specs.declared.Metres.{Metres}
use Rattle.angle.specs.declared.Units.{Units}
use Rattle.angle.specs.declared.Angles.{Angles}
use Rattle.angle.specs.declared.Projected.{Projected}
use Rattle.angle.specs.declared.Millimetres.{Millimetres}
use Rattle.angle.specs.Cartesian.{cartesian_of, cartesian_units_of}
use Rattle.angle.specs.Geodetic.{geodetic_units_of}
use Rattle.angle.specs.Cassini.{cassini_of, cassini_millimetres_of}
use Rattle.line.specs.Later as verdict
use Rattle.line.specs.Later.{LaterFault, Verdict, later_of, later_fault_of}
use Rattle.capi.specs.Outcome.{CallOutcome, refused, gives, if_sized}
use Rattle.chain.specs.Numbers.{chain_from}
use Rattle.capi.specs.Chains.{point_from, point_numbers, whole_steps}

-- ---- conversions under a profile, forward and inverse: a point
abbrev pub of_answer : Answer → CallOutcome ℤ
of_answer (Ok p) = gives (point_numbers p)
of_answer (Err n) = refused n

unfoldable pub conversion_call : (Chain → Point → Answer) → ℤ → List ℤ → List ℤ → List ℤ → CallOutcome ℤ
conversion_call convert profile chain point out =
    if_sized (whole_steps (length chain) (length point) (length out)) (of_answer (convert (chain_from profile chain) (point_from point)))

abbrev pub forward_call : ℤ → List ℤ → List ℤ → List ℤ → CallOutcome ℤ
forward_call = conversion_call forward_of

abbrev pub inverse_call : ℤ → List ℤ → List ℤ → List ℤ → CallOutcome ℤ
inverse_call = conversion_call inverse_of

-- ---- geodetic to Cartesian: X, Y, Z
abbrev pub of_cartesian : Result Metres ℕ → CallOutcome Float
of_cartesian (Ok p) = gives (p.x ∷ p.y ∷ p.z ∷ [])
of_cartesian (Err n) = refused n

abbrev pub of_units : Result Units ℕ → CallOutcome ℤ
of_units (Ok p) = gives (p.x ∷ p.y ∷ p.z ∷ [])
of_units (Err n) = refused n

unfoldable pub cartesian_call : ℤ → ℤ → ℤ → ℤ → List Float → CallOutcome Float
cartesian_call code latitude longitude height out = if_sized (eqb (length out) 3) (of_cartesian (cartesian_of code latitude longitude height))

unfoldable pub units_call : ℤ → ℤ → ℤ → ℤ → List ℤ → CallOutcome ℤ
units_call code latitude longitude height out = if_sized (eqb (length out) 3) (of_units (cartesian_units_of code latitude longitude height))

-- ---- Cartesian to geodetic: latitude, longitude, height
abbrev pub of_geodetic : Result Angles ℕ → CallOutcome ℤ
of_geodetic (Ok p) = gives (p.latitude ∷ p.longitude ∷ p.height ∷ [])
of_geodetic (Err n) = refused n

unfoldable pub geodetic_call : ℤ → ℤ → ℤ → ℤ → List ℤ → CallOutcome ℤ
geodetic_call code x y z out = if_sized (eqb (length out) 3) (of_geodetic (geodetic_units_of code x y z))

-- ---- Cassini: easting, northing
abbrev pub of_projected : Result Projected ℕ → CallOutcome Float
of_projected (Ok p) = gives (p.easting ∷ p.northing ∷ [])
of_projected (Err n) = refused n

abbrev pub of_millimetres : Result Millimetres ℕ → CallOutcome ℤ
of_millimetres (Ok p) = gives (p.easting ∷ p.northing ∷ [])
of_millimetres (Err n) = refused n

-- an origin by its numbers: ellipsoid, latitude, longitude, false easting, false northing
abbrev pub origin_from : ℤ → ℤ → ℤ → ℤ → ℤ → OriginNumbers
origin_from code latitude longitude e n = record {
  ellipsoid = code;
  latitude = latitude;
  longitude = longitude;
  false_easting = e;
  false_northing = n;
}

unfoldable pub cassini_call : OriginNumbers → ℤ → ℤ → List Float → CallOutcome Float
cassini_call o latitude longitude out = if_sized (eqb (length out) 2) (of_projected (cassini_of o latitude longitude))

unfoldable pub millimetres_call : OriginNumbers → ℤ → ℤ → List ℤ → CallOutcome ℤ
millimetres_call o latitude longitude out = if_sized (eqb (length out) 2) (of_millimetres (cassini_millimetres_of o latitude longitude))

-- ---- rounding: one number
abbrev pub of_rounded : Rounded → CallOutcome ℤ
of_rounded (Ok n) = gives (n ∷ [])
of_rounded (Err n) = refused n

unfoldable pub round_call : Float → ℕ → List ℤ → CallOutcome ℤ
round_call x places out = if_sized (eqb (length out) 1) (of_rounded (rounded_of x places))

-- ---- the later of two point lines: 1 for the first, 2 for the second
abbrev pub of_verdict : Verdict → CallOutcome ℤ
of_verdict verdict.First = gives (pos 1 ∷ [])
of_verdict verdict.Second = gives (pos 2 ∷ [])
of_verdict (verdict.Refused f) = refused f.number

unfoldable pub later_call : List ℕ → List ℕ → List ℤ → CallOutcome ℤ
later_call one other which = if_sized (eqb (length which) 1) (of_verdict (later_of one other))

-- and why neither is: refusal number, line, place; three zeros where one is
abbrev pub of_later_fault : LaterFault → CallOutcome ℤ
of_later_fault f = gives (pos f.number ∷ pos f.line ∷ pos f.place ∷ [])

unfoldable pub later_fault_call : List ℕ → List ℕ → List ℤ → CallOutcome ℤ
later_fault_call one other out = if_sized (eqb (length out) 3) (of_later_fault (later_fault_of (later_of one other)))
