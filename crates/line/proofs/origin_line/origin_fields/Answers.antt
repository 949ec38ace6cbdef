-- `line::origin_line::origin_fields` meets its contract. Assumes nothing.
use Rattle.std.proofs.Common.{ℤ, refl, rules}
use Rattle.angle.specs.declared.OriginNumbers.{OriginNumbers}
use Rattle.line.specs.Forms.{five_form, origin_form}
use Rattle.line.specs.Reading.{capped_origin}
use Rattle.line.proofs.origin_line.origin_fields.Goals as goal

origin : ℤ → ℤ → ℤ → ℤ → ℤ → OriginNumbers
origin v w x y z = record { ellipsoid = v; latitude = w; longitude = x; false_easting = y; false_northing = z }

pub returns : goal.returns
unfolding five_form origin_form origin
returns c = c.five.ensures capped_origin origin (λ v w x y z r fv fw fx fy fz e. search rules) (λ v w x y z. refl)
