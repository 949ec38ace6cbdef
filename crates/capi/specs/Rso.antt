-- The calls of RSO from C: a projection's eight parameters from a row of numbers, and what each call answers.
use Rattle.std.specs.Prelude.{◌&&◌, List, [], ◌∷◌, eqb, ℕ, ℤ, Float, length, Result, Ok, Err}
use Rattle.oblique_mercator.specs.declared.Parameters.{Parameters}
use Rattle.oblique_mercator.specs.declared.Place.{Place}
use Rattle.oblique_mercator.specs.Forward.{forward_of}
use Rattle.oblique_mercator.specs.Reverse.{reverse_of}
use Rattle.capi.specs.Outcome.{CallOutcome, refused, gives, if_sized}
use Rattle.chain.specs.Numbers.{number}
use Rattle.capi.specs.Calls.{of_projected}

-- ellipsoid, centre's latitude and longitude, azimuth, rectified angle, scale, false easting, false northing
unfoldable pub parameters_from : List ℤ → Parameters
parameters_from ns = record {
  ellipsoid = number ns 0;
  latitude = number ns 1;
  longitude = number ns 2;
  azimuth = number ns 3;
  rectified = number ns 4;
  scale = number ns 5;
  false_easting = number ns 6;
  false_northing = number ns 7;
}

-- forward: easting, northing
unfoldable pub rso_forward_call : List ℤ → ℤ → ℤ → List Float → CallOutcome Float
rso_forward_call ns latitude longitude out = if_sized (eqb (length ns) 8 && eqb (length out) 2) (of_projected (forward_of (parameters_from ns) latitude longitude))

-- reverse: latitude, longitude
abbrev pub of_angles : Result Place ℕ → CallOutcome ℤ
of_angles (Ok p) = gives (p.latitude ∷ p.longitude ∷ [])
of_angles (Err n) = refused n

unfoldable pub rso_reverse_call : List ℤ → Float → Float → List ℤ → CallOutcome ℤ
rso_reverse_call ns e n out = if_sized (eqb (length ns) 8 && eqb (length out) 2) (of_angles (reverse_of (parameters_from ns) e n))
