-- `chain::numbers::after_at` meets its contract. Assumes nothing.
use mathlib.Core.Path.{◌∙◌, ap}
use Prim.Native.Nat.{◌*◌}
use mathlib.Core.List.{List}
use lib.IntN.{ℤ}
use Rattle.chain.specs.Numbers.{step_from}
use Rattle.chain.proofs.LentSteps.{rest-is}
use Rattle.chain.proofs.numbers.after_at.Goals as goal

pub returns : goal.returns
returns c = c.after_in.ensures ∙ ap (λ (l : List ℤ). (step_from l).after) (rest-is c.args.n.now (13 * c.args.i))
