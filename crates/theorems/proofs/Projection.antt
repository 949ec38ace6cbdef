-- Geodetic to Cartesian and Cassini, from the laws of their crate. Assumes nothing.
use mathlib.Core.Path.{subst}
use Rattle.angle.proofs.AtOrigin.{at-origin}
use Rattle.angle.proofs.Finite.{CartesianBounded, cartesian-bounded, ProjectedBounded, projected-bounded, units-answered, millimetres-answered}
use Rattle.theorems.specs.Projection.{CartesianFinite, ProjectedFinite, ProjectionLaws}

position : CartesianFinite
position code lat lon h x y z e = let b = subst CartesianBounded e (cartesian-bounded code lat lon h) in record { x = b.0; y = b.1; z = b.2 }

projected : ProjectedFinite
projected o lat lon x y e = let b = subst ProjectedBounded e (projected-bounded o lat lon) in record { east = b.0; north = b.1 }

pub projection : ProjectionLaws
projection = record {
  origin = at-origin;
  position = position;
  projected = projected;
  units = λ code lat lon h x y z e. units-answered code lat lon h (record { x = x; y = y; z = z }) e;
  millimetres = λ o lat lon x y e. millimetres-answered o lat lon (record { easting = x; northing = y }) e;
}
