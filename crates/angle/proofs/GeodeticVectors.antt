-- Cartesian to geodetic: a worked value bit for bit, each step from the bits of those before it (docs/ORDERS.md, section 4: ellipsoid 1, ARAU), and refusals in their
-- order. Assumes nothing.
use mathlib.Core.Path.{◌≡◌, refl}
use mathlib.Core.List.{List, [], ◌∷◌}
use Prim.Native.Nat.{ℕ}
use lib.IntN.{pos, negsuc}
use lib.Ieee.{Float, binary64, round, neg, sub, add, mul, div, of_int, of_bits}
use Rattle.std.specs.Prelude.{Result, Ok, Err}
use Rattle.elementary.specs.Floats.{◌⊗◌, ◌⊘◌, ◌⊕◌, #, whole}
use Rattle.elementary.specs.Series.{arctan_small_of}
use Rattle.elementary.specs.Root.{root_of}
use Rattle.refusal.specs.Numbers.{range, geodetic}
use Rattle.refusal.specs.Numbers as numbers
use Rattle.angle.specs.Worked.{open_angles}
use Rattle.angle.specs.Units.{seconds}
use Rattle.angle.specs.Ellipsoids.{ellipsoid_of}
use Rattle.angle.specs.Geodetic.{tangent_of, height_of, in_ranges, from_rounded, in_angles, geodetic_units_of}
use Rattle.angle.specs.declared.Angles.{Angles}

abbrev f64 : ℕ → Float
f64 n = of_bits binary64 n

-- q, P, z; tan φ, φ and h from them; w; and the seconds of φ and w
found : List Float
found =
    neg (whole (negsuc 113105165409)) ⊘ whole (pos 623631179950)
    ∷ (whole (pos 623631179950) ⊘ # 100000) ⊗ root_of (# 1 ⊕ f64 0x3fc736fbe0adb301 ⊗ f64 0x3fc736fbe0adb301)
    ∷ whole (pos 71174811140) ⊘ # 100000
    ∷ tangent_of (ellipsoid_of (pos 1)) (f64 0x41582d8033c61601) (f64 0x4125b88839096bba)
    ∷ arctan_small_of (f64 0x3fbcf123b8787117)
    ∷ height_of (ellipsoid_of (pos 1)) (f64 0x41582d8033c61601) (f64 0x4125b88839096bba) (f64 0x3fbcd1d02fa4b4ca)
    ∷ # 2 ⊗ arctan_small_of (f64 0x3fc736fbe0adb301 ⊘ (# 1 ⊕ root_of (# 1 ⊕ f64 0x3fc736fbe0adb301 ⊗ f64 0x3fc736fbe0adb301)))
    ∷ f64 0x3fbcd1d02fa4b4ca ⊗ seconds
    ∷ f64 0x3fc6f71428fa5def ⊗ seconds
    ∷ []

expected : List Float
expected =
    f64 0x3fc736fbe0adb301 ∷ f64 0x41582d8033c61601 ∷ f64 0x4125b88839096bba ∷ f64 0x3fbcf123b8787117 ∷ f64 0x3fbcd1d02fa4b4ca ∷ f64 0x403213fb1c380000 ∷ f64 0x3fc6f71428fa5def ∷ f64 0x40d6ad246bf29556 ∷ f64 0x40e211e19fd58e4e ∷ []

worked : found ≡ expected
unfolding found expected tangent_of height_of open_angles round neg sub add mul div of_int of_bits
worked = refl

-- in units; and a code, a position and a result that are refused
answers : List (Result Angles ℕ)
answers =
    in_angles (record { latitude = f64 0x40d6ad246bf29556; longitude = f64 0x40e211e19fd58e4e; height = f64 0x403213fb1c380000 })
    ∷ geodetic_units_of (pos 5) (pos 0) (pos 0) (pos 0)
    ∷ geodetic_units_of (pos 4) (negsuc 89999999998) (pos 540000000000) (pos 0)
    ∷ in_angles (record { latitude = # 28800; longitude = # 32400; height = # 9001 })
    ∷ []

answered : answers ≡ (Ok (record { latitude = pos 2322056909; longitude = pos 36100705076; height = pos 1807805 }) ∷ Err range ∷ Err numbers.area ∷ Err geodetic ∷ [])
unfolding answers geodetic_units_of in_angles from_rounded in_ranges open_angles round of_bits
answered = refl
