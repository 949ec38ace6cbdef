-- `velocity_grid::step::velocity_step` meets its contract. Assumes nothing.
use Rattle.rounding.proofs.Machine.{rd, of₃}
use Rattle.velocity_grid.specs.Step.{velocity_step}
use Rattle.velocity_grid.proofs.step.velocity_step.Goals as goal

pub returns : goal.returns
returns c = of₃ (velocity_step c.args.v) (rd c.ranges.datum) (rd c.ranges.before) (rd c.ranges.after)
