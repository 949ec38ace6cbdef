-- Cartesian to geodetic, from the laws of its crate. Assumes nothing.
use Rattle.angle.proofs.GeodeticFinite.{found-bounded, all-finite, none-refused}
use Rattle.theorems.specs.Geodetic.{FoundBounded, GeodeticLaws}

bounded : FoundBounded
bounded code X Y Z h = let b = found-bounded code X Y Z h in record { latitude = b.latitude; longitude = b.longitude; height = b.height }

pub geodetic : GeodeticLaws
geodetic = record { bounded = bounded; finite = all-finite; rounded = none-refused }
