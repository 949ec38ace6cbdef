-- `line::grid_line::header_fields` meets its contract. Assumes nothing.
use Rattle.std.proofs.Common.{ℤ, refl, rules}
use Rattle.line.specs.declared.GridHeader.{GridHeader}
use Rattle.line.specs.Forms.{five_form, grid_form}
use Rattle.line.specs.Reading.{capped_header}
use Rattle.line.proofs.grid_line.header_fields.Goals as goal

header : ℤ → ℤ → ℤ → ℤ → ℤ → GridHeader
header v w x y z = record { latitude = v; longitude = w; rows = x; columns = y; mesh = z }

pub returns : goal.returns
unfolding five_form grid_form header
returns c = c.five.ensures capped_header header (λ v w x y z r fv fw fx fy fz e. search rules) (λ v w x y z. refl)
