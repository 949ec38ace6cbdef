-- `chain::kinds::kind_rule` meets its contract. Assumes nothing.
use mathlib.Core.Path.{sym, ◌∙◌, ap}
use mathlib.Core.Bool.{Bool}
use Rattle.chain.specs.Faults.{kind_rule}
use Rattle.chain.specs.declared.Kind.{Kind}
use Rattle.chain.proofs.kinds.kind_rule.Tie as tie
use Rattle.chain.proofs.kinds.kind_rule.Lts as lts
use Rattle.chain.proofs.kinds.kind_rule.Reads as reads
use Rattle.chain.proofs.kinds.kind_rule.Goals as goal

abbrev TheStart : Type 0
TheStart = lts.Start tie.the-claims reads.Pre reads.Post

-- what the rule says of a kind, it says of what the match found
module _ (s : TheStart) where
  abbrev rule : Kind → Bool
  rule kind = kind_rule kind s.args.before s.args.after

pub returns-in-Velocity : goal.returns-in-Velocity
returns-in-Velocity c = c.velocity_rule.ensures _ ∙ ap (rule c.before.before) (sym c.in-Velocity.is)
