-- Worked values, bit for bit (docs/ORDERS.md, section 5): document 004's Borneo example, and a projection whose azimuth and rectified angle lie well apart and past a full turn;
-- each projection made, a point forward from the projection's bits, and back from easting and northing. Then refusals in their order. Assumes nothing.
use mathlib.Core.Path.{◌≡◌, refl}
use mathlib.Core.List.{List, [], ◌∷◌, ◌++◌, map}
use Prim.Native.Nat.{ℕ}
use lib.IntN.{ℤ, pos, negsuc}
use lib.Ieee.{Float, nan, binary64, round, neg, add, sub, mul, div, lt, le, eq, of_int, of_bits}
use Rattle.std.specs.Prelude.{Result, Ok, Err}
use Rattle.refusal.specs.Numbers.{range, geodetic}
use Rattle.refusal.specs.Numbers as numbers
use Rattle.elementary.specs.Floats.{#}
use Rattle.elementary.proofs.Same.{sames-are}
use Rattle.angle.specs.declared.Projected.{Projected}
use Rattle.angle.specs.Worked.{open_angles}
use Rattle.oblique_mercator.specs.Parameters.{reduced, parameters_range}
use Rattle.oblique_mercator.specs.Projection.{isometric_of, centre_of, natural_of, series_of, projection_made, projection_of}
use Rattle.oblique_mercator.specs.Forward.{plane_of, plane_at, forward_from_of, forward_of}
use Rattle.oblique_mercator.specs.Reverse.{in_plane, turned_of, gate_of, latitude_of, found_of, in_ranges, from_rounded, in_units, reverse_at, reverse_from_of, reverse_of}
use Rattle.oblique_mercator.specs.declared.Parameters.{Parameters}
use Rattle.oblique_mercator.specs.declared.Projection.{Projection}
use Rattle.oblique_mercator.specs.declared.Place.{Place}

abbrev f64 : ℕ → Float
f64 n = of_bits binary64 n

abbrev fields : Projection → List Float
fields p =
    p.e2
    ∷ p.b
    ∷ p.ln_h
    ∷ p.sin_natural
    ∷ p.cos_natural
    ∷ p.omega
    ∷ p.sin_rectified
    ∷ p.cos_rectified
    ∷ p.r
    ∷ p.rho
    ∷ p.false_easting
    ∷ p.false_northing
    ∷ p.k2
    ∷ p.k4
    ∷ p.k6
    ∷ p.k8
    ∷ []

abbrev plane : Projected → List Float
plane p = p.easting ∷ p.northing ∷ []

-- ---- an example: the projection's numbers and its bits, a point's angles, and where it lies
record Example : Type 0 where
  given : Parameters
  made : Projection
  latitude : ℤ
  longitude : ℤ
  easting : Float
  northing : Float

-- document 004's Borneo example
abbrev borneo : Parameters
borneo = record { ellipsoid = pos 4; latitude = pos 1440000000; longitude = pos 41400000000; azimuth = pos 19193695370; rectified = pos 19126836850; scale = pos 99984000000; false_easting = pos 0; false_northing = pos 0 }

abbrev borneo-made : Projection
borneo-made =
    record {
      centre = pos 41400000000;
      e2 = f64 0x3f7b30496314c5d1;
      b = f64 0x3ff00d87aa765fde;
      ln_h = f64 0x3ec917d47a170000;
      sin_natural = f64 0x3fe99999998fc98e;
      cos_natural = f64 0x3fe333333340488e;
      omega = f64 0x3fb7becd87c8c5df;
      sin_rectified = f64 0x3fe9999999a39c31;
      cos_rectified = f64 0x3fe333333325da61;
      r = f64 0x41583e55763cce6f;
      rho = f64 0x3e851e7b629648c4;
      false_easting = f64 0x0000000000000000;
      false_northing = f64 0x0000000000000000;
      k2 = f64 0x3f6b4396a65e7539;
      k4 = f64 0x3edb197d4818e9db;
      k6 = f64 0x3e527838655f9ffe;
      k8 = f64 0x3dcc5109ece963fd;
    }

abbrev in-borneo : Example
in-borneo =
    record {
      given = borneo;
      made = borneo-made;
      latitude = pos 1939411290;
      longitude = pos 41689981960;
      easting = f64 0x4124ba9b7790b20e;
      northing = f64 0x412234a591577e09;
    }

-- angles well apart, past a full turn
abbrev apart : Parameters
apart = record { ellipsoid = pos 1; latitude = pos 360000000; longitude = pos 35640000000; azimuth = pos 118800000000; rectified = pos 10800000000; scale = pos 101000000000; false_easting = negsuc 1999999999; false_northing = pos 2000000000 }

abbrev apart-made : Projection
apart-made =
    record {
      centre = pos 35640000000;
      e2 = f64 0x3f7b6b90f43ee47a;
      b = f64 0x3ff00dc55be2fcd8;
      ln_h = f64 0x3e6962e9e6180000;
      sin_natural = f64 0xbfdffec2bb0e6719;
      cos_natural = f64 0x3febb6d67c727915;
      omega = f64 0xbf847f4905d10843;
      sin_rectified = f64 0x3fdfffffffffffff;
      cos_rectified = f64 0x3febb67ae8584cab;
      r = f64 0x41587ddb3b6bcbcb;
      rho = f64 0x3e84e7b4e665cadf;
      false_easting = f64 0xc13e848000000000;
      false_northing = f64 0x413e848000000000;
      k2 = f64 0x3f6b7f32db6bea94;
      k4 = f64 0x3edb907ea217c2c1;
      k6 = f64 0x3e52f265c89c03d1;
      k8 = f64 0x3dcd4b2ab87bb2bb;
    }

abbrev well-apart : Example
well-apart =
    record {
      given = apart;
      made = apart-made;
      latitude = pos 2880000000;
      longitude = pos 43200000000;
      easting = f64 0xc0d9d634ff539640;
      northing = f64 0x411a99c0e80372b8;
    }

abbrev examples : List Example
examples = in-borneo ∷ well-apart ∷ []

abbrev all : (Example → List Float) → List Example → List Float
all f [] = []
all f (e ∷ es) = f e ++ all f es

abbrev at : Example → Result Place ℕ
at e = Ok (record { latitude = e.latitude; longitude = e.longitude })

-- each made from its numbers; each point forward from the bits, and back
record Worked : Type 0 where
  made : all (λ (e : Example). fields (projection_made e.given)) examples ≡ all (λ (e : Example). fields e.made) examples
  laid : all (λ (e : Example). plane (plane_at e.made e.latitude e.longitude)) examples ≡ all (λ (e : Example). e.easting ∷ e.northing ∷ []) examples
  back : map (λ (e : Example). reverse_at e.made e.easting e.northing) examples ≡ map at examples

-- ---- refusals: the parameters first, then the angles; 23 before 12, for a NaN too; the far side of the earth is 12
abbrev bad : Parameters
bad = record { ellipsoid = pos 4; latitude = pos 0; longitude = pos 41400000000; azimuth = pos 19193695370; rectified = pos 19126836850; scale = pos 99984000000; false_easting = pos 0; false_northing = pos 0 }

refused : List (Result Projected ℕ)
refused = forward_of bad (negsuc 0) (pos 0) ∷ forward_from_of borneo-made (negsuc 0) (pos 41400000000) ∷ forward_from_of borneo-made (pos 0) (pos 43200000001) ∷ []

back-refused : List (Result Place ℕ)
back-refused =
    reverse_of bad nan nan
    ∷ reverse_from_of borneo-made nan (# 0)
    ∷ reverse_from_of borneo-made (# 0) (neg (# 10000000))
    ∷ reverse_from_of borneo-made (# 9999999) (# 9999999)
    ∷ []

record InOrder : Type 0 where
  there : refused ≡ (Err range ∷ Err geodetic ∷ Err geodetic ∷ [])
  back : back-refused ≡ (Err range ∷ Err numbers.plane ∷ Err numbers.plane ∷ Err geodetic ∷ [])

-- ---- each worked out
record Vectors : Type 0 where
  examples-worked : Worked
  in_order : InOrder

vectors : Vectors
unfolding projection_made centre_of natural_of series_of isometric_of reduced plane_at plane_of reverse_at turned_of gate_of found_of latitude_of in_units from_rounded in_ranges refused back-refused forward_of reverse_of projection_of parameters_range forward_from_of reverse_from_of in_plane open_angles round neg add sub mul div lt le eq of_int of_bits
vectors = record {
  examples-worked = record {
    made = sames-are (all (λ (e : Example). fields (projection_made e.given)) examples) (all (λ (e : Example). fields e.made) examples) tt;
    laid = sames-are (all (λ (e : Example). plane (plane_at e.made e.latitude e.longitude)) examples) (all (λ (e : Example). e.easting ∷ e.northing ∷ []) examples) tt;
    back = refl;
  };
  in_order = record { there = refl; back = refl };
}
