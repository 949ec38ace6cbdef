-- `chain::lent::fault_made` meets its contract. Assumes nothing.
use mathlib.Core.Path.{◌∙◌, ap}
use Rattle.refusal.specs.Order.{first}
use Rattle.rounding.proofs.Machine.{rd}
use Rattle.chain.specs.declared.Chain.{Chain}
use Rattle.chain.specs.Faults.{chain_tests}
use Rattle.chain.specs.Numbers.{chain_from}
use Rattle.chain.proofs.lent.fault_made.Goals as goal
use lib.IntN.{ℤ}

pub returns : goal.returns
returns c =
    c.chain_fault.ensures
    ∙ ap (λ (h : Chain). first (chain_tests h)) (c.chain_from.ensures ∙ ap (λ (y : ℤ). chain_from y c.args.steps.now) (rd c.ranges.profile))
