-- `angle::projection::parallel_at` meets its contract: each value is the printed one. Assumes nothing.
use Rattle.angle.specs.Terms.{parallel_of}
use Rattle.angle.proofs.projection.parallel_at.Goals as goal

pub returns : goal.returns
unfolding parallel_of
returns c = rw (c.prime_vertical-nu.ensures, c.cosine-c.ensures, c.sine-s.ensures, c.latitude_radians-phi.ensures)
