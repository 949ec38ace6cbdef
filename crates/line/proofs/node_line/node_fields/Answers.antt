-- `line::node_line::node_fields` meets its contract. Assumes nothing.
use Rattle.std.proofs.Common.{ℤ, refl, arith, rules}
use Rattle.line.specs.declared.VelocityParts.{VelocityParts}
use Rattle.line.specs.Forms.{three_form, node_form}
use Rattle.line.specs.Reading.{capped_parts}
use Rattle.line.proofs.node_line.node_fields.Goals as goal

parts : ℤ → ℤ → ℤ → VelocityParts
parts x y z = record { east = x; north = y; up = z }

pub returns : goal.returns
unfolding three_form node_form parts
returns c = (c.three.ensures capped_parts parts (λ x y z r fx fy fz e. search rules) (λ x y z. refl)).told (omega arith)
