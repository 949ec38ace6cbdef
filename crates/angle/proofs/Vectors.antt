-- Worked values, one statement for each call: antt computes the definitions. Bit patterns are of an independent calculation in f64. Assumes nothing.
use mathlib.Core.Path.{◌≡◌, refl}
use mathlib.Core.List.{List, [], ◌∷◌}
use Prim.Native.Nat.{ℕ}
use lib.IntN.{ℤ, pos, negsuc}
use lib.Ieee.{Float, binary64, add, sub, mul, div, neg, round, of_int, of_bits}
use Rattle.std.specs.Prelude.{Result, Ok, Err}
use Rattle.refusal.specs.Numbers.{range, geodetic}
use Rattle.refusal.specs.Numbers as numbers
use Rattle.angle.specs.Worked.{open_angles}
use Rattle.angle.specs.Ellipsoids.{meridian_arc}
use Rattle.angle.specs.Cartesian.{cartesian_of}
use Rattle.angle.specs.Cassini.{cassini_of}
use Rattle.angle.specs.declared.OriginNumbers.{OriginNumbers}
use Rattle.angle.specs.declared.Metres.{Metres}
use Rattle.angle.specs.declared.Projected.{Projected}

abbrev f64 : ℕ → Float
f64 b = of_bits binary64 b

-- ---- code, latitude, longitude, height, and the answer. First document 000's point on GRS80; at the end 2 before 12, 12 for a height and 12 for a longitude
record Position : Type 0 where
  code : ℤ
  latitude : ℤ
  longitude : ℤ
  height : ℤ
  answer : Result Metres ℕ

abbrev v : ℤ → ℤ → ℤ → ℤ → Result Metres ℕ → Position
v c a o h r = record { code = c; latitude = a; longitude = o; height = h; answer = r }

abbrev at : Float → Float → Float → Result Metres ℕ
at a b c = Ok (record { x = a; y = b; z = c })

abbrev positions : List Position
positions =
    v (pos 1) (pos 2322056909) (pos 36100705076) (pos 1807800) (at (f64 0xc131422ba77073bc) (f64 0x4157ca25f32a36b4) (f64 0x4125b888390e49ab))
    ∷ v (pos 2) (pos 0) (pos 35640000000) (negsuc 49999999) (at (f64 0xc12e726476f21824) (f64 0x4158077b6d261002) (f64 0x0))
    ∷ v (pos 3) (pos 2880000000) (pos 43200000000) (pos 900000000) (at (f64 0xc1482053c03a30b5) (f64 0x4154e4db30f2a2d2) (f64 0x412af22e03c61b86))
    ∷ v (pos 4) (pos 1234567890) (pos 39876543210) (pos 0) (at (f64 0xc14138c475ec468a) (f64 0x4156b4ce15a00aad) (f64 0x4117211168e691f7))
    ∷ v (pos 5) (pos 2880000001) (pos 0) (pos 0) (Err range)
    ∷ v (pos 1) (pos 0) (pos 35640000000) (negsuc 50000000) (Err geodetic)
    ∷ v (pos 4) (pos 0) (pos 43200000001) (pos 0) (Err geodetic)
    ∷ []

abbrev found : List Position → List (Result Metres ℕ)
found [] = []
found (p ∷ ps) = cartesian_of p.code p.latitude p.longitude p.height ∷ found ps

abbrev answers : List Position → List (Result Metres ℕ)
answers [] = []
answers (p ∷ ps) = p.answer ∷ answers ps

-- ---- origin, latitude, longitude, and the answer. First document 000's two examples (Kedah and Perlis), then an origin itself; at the end exactly 4 degrees and
-- one unit more
record Point : Type 0 where
  from : OriginNumbers
  at-latitude : ℤ
  at-longitude : ℤ
  laid : Result Projected ℕ

abbrev origin : ℤ → ℤ → ℤ → ℤ → ℤ → OriginNumbers
origin c a o e n = record { ellipsoid = c; latitude = a; longitude = o; false_easting = e; false_northing = n }

abbrev g : OriginNumbers → ℤ → ℤ → Result Projected ℕ → Point
g o a l r = record { from = o; at-latitude = a; at-longitude = l; laid = r }

abbrev on : Float → Float → Result Projected ℕ
on a b = Ok (record { easting = a; northing = b })

abbrev points : List Point
points =
    g (origin (pos 1) (pos 2147281981) (pos 36229093028) (pos 0) (pos 0)) (pos 2210298682) (pos 36138656827) (on (f64 0xc0db275a7fff762e) (f64 0x40d2e913bd797dcd))
    ∷ g (origin (pos 1) (pos 2147282155) (pos 36229093860) (pos 0) (pos 0)) (pos 2210298892) (pos 36138657684) (on (f64 0xc0db275a01912e9e) (f64 0x40d2e914729de9cc))
    ∷ g (origin (pos 1) (pos 1440000000) (pos 36720000000) (pos 50000) (negsuc 24999)) (pos 1440000000) (pos 36720000000) (on (f64 0x4049000000000000) (f64 0xc039000000000000))
    ∷ g (origin (pos 3) (pos 1234567890) (pos 36800000000) (pos 2000000000) (negsuc 1999999999)) (pos 0) (pos 38240000000) (on (f64 0x4142a7d1e816f575) (f64 0xc14226d384bbb5a0))
    ∷ g (origin (pos 4) (pos 2880000000) (pos 43200000000) (negsuc 14810561) (pos 8758321)) (pos 2879999999) (pos 41760000000) (on (f64 0xc11bd09a29404328) (f64 0x40c54c4bee1e3c68))
    ∷ g (origin (pos 2) (pos 734000000) (pos 37400000000) (negsuc 242004) (negsuc 948546)) (pos 746345678) (pos 37423456789) (on (f64 0x40bb5e9b3163de2d) (f64 0x40a6374569e3ad30))
    ∷ g (origin (pos 3) (pos 1234567890) (pos 36800000000) (pos 0) (pos 0)) (pos 0) (pos 38240000001) (Err numbers.apart)
    ∷ []

abbrev found-points : List Point → List (Result Projected ℕ)
found-points [] = []
found-points (p ∷ ps) = cassini_of p.from p.at-latitude p.at-longitude ∷ found-points ps

abbrev laid-points : List Point → List (Result Projected ℕ)
laid-points [] = []
laid-points (p ∷ ps) = p.laid ∷ laid-points ps

-- ---- each answered as it should be
record Worked : Type 0 where
  positions : found positions ≡ answers positions
  points : found-points points ≡ laid-points points

worked : Worked
unfolding cartesian_of cassini_of meridian_arc open_angles add sub mul div neg round of_int of_bits
worked = record { positions = refl; points = refl }
