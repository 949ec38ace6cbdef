-- `chain::numbers::step_at` meets its contract. Assumes nothing.
use mathlib.Core.Path.{◌∙◌, ap}
use Prim.Native.Nat.{◌*◌}
use Rattle.chain.specs.Numbers.{step_from}
use Rattle.chain.proofs.LentSteps.{rest-is}
use Rattle.chain.proofs.numbers.step_at.Goals as goal

pub returns : goal.returns
returns c = c.step_from.ensures ∙ ap step_from (rest-is c.args.n.now (13 * c.args.i))
