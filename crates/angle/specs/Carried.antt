-- An origin with each of its numbers carried another way.
use Rattle.std.specs.Prelude.{ℤ}
use Rattle.angle.specs.declared.OriginNumbers.{OriginNumbers}

abbrev pub carried_origin : (ℤ → ℤ) → OriginNumbers → OriginNumbers
carried_origin f o =
    record {
      ellipsoid = f o.ellipsoid;
      latitude = f o.latitude;
      longitude = f o.longitude;
      false_easting = f o.false_easting;
      false_northing = f o.false_northing;
    }
