-- Geodetic to Cartesian, in the order written.
use Rattle.std.specs.Prelude.{ℕ, ℤ, pos, ◌-ℤ◌, Result, Ok, Err}
use Rattle.std.specs.Float.Ieee.{neg}
use Rattle.refusal.specs.Order.{first, unless}
use Rattle.rounding.specs.Decimals.{Rounded, rounded_of}
use Rattle.elementary.specs.Floats.{◌⊗◌, ◌⊘◌, ◌⊕◌, ◌⊖◌, #, whole}
use Rattle.angle.specs.Units.{radians}
use Rattle.angle.specs.Ranges.{cartesian_tests}
use Rattle.elementary.specs.Series.{sine_of, cosine_of}
use Rattle.angle.specs.Ellipsoids.{ellipsoid_of, prime_vertical}
use Rattle.angle.specs.declared.Ellipsoid.{Ellipsoid}
use Rattle.angle.specs.declared.Metres.{Metres}
use Rattle.angle.specs.declared.Units.{Units}

-- The longitude goes in as w, its part past 90 degrees, the difference in whole numbers: cos L = -sin w, sin L = cos w.
unfoldable pub cartesian_at : Ellipsoid → ℤ → ℤ → ℤ → Metres
cartesian_at e latitude longitude height =
    let φ = radians latitude in
    let w = radians (longitude -ℤ pos 32400000000) in
    let cosL = neg (sine_of w) in
    let sinL = cosine_of w in
    let h = whole height ⊘ # 100000 in
    let sinφ = sine_of φ in
    let cosφ = cosine_of φ in
    let ν = prime_vertical e sinφ in
    record { x = ((ν ⊕ h) ⊗ cosφ) ⊗ cosL; y = ((ν ⊕ h) ⊗ cosφ) ⊗ sinL; z = ((# 1 ⊖ e.e2) ⊗ ν ⊕ h) ⊗ sinφ }

-- refused: 2, 12
unfoldable pub cartesian_of : ℤ → ℤ → ℤ → ℤ → Result Metres ℕ
unfolding cartesian_at ellipsoid_of
cartesian_of code latitude longitude height =
    unless (first (cartesian_tests code latitude longitude height)) Err (Ok (cartesian_at (ellipsoid_of code) latitude longitude height))

-- all three, or the first refusal
abbrev pub three : Rounded → Rounded → Rounded → Result Units ℕ
three (Err n) y z = Err n
three (Ok x) (Err n) z = Err n
three (Ok x) (Ok y) (Err n) = Err n
three (Ok x) (Ok y) (Ok z) = Ok (record { x = x; y = y; z = z })

-- whole units of 0.00001 m: each by the rounding, 5 places. Its refusal comes last.
unfoldable pub in_units : Result Metres ℕ → Result Units ℕ
in_units (Err n) = Err n
in_units (Ok m) = three (rounded_of m.x 5) (rounded_of m.y 5) (rounded_of m.z 5)

unfoldable pub cartesian_units_of : ℤ → ℤ → ℤ → ℤ → Result Units ℕ
unfolding cartesian_of in_units
cartesian_units_of code latitude longitude height = in_units (cartesian_of code latitude longitude height)
