-- `chain::steps::fixed_by` meets its contract: what is gained is the same everywhere. Assumes nothing.
use Rattle.std.proofs.Common.{rules, sym, ◌≡◌, ◌∙◌}
use Rattle.chain.specs.declared.steps.Ready.TheVariants.{Fixed}
use Rattle.chain.specs.Ready.{ready_parts}
use Rattle.chain.proofs.Prepared.{fixed-gain, one-turn}
use Rattle.chain.proofs.steps.fixed_by.Goals as goal

pub returns : goal.returns
returns c = c.moved_by.ensures (ready_parts (Fixed c.args.g)) (λ p g s e. let same : g ≡ c.args.g = search rules in same ∙ sym (fixed-gain c.args.g p)) ∙ one-turn c.args.direction c.args.g c.args.p
