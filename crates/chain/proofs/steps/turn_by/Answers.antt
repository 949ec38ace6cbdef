-- `chain::steps::turn_by` meets its contract: what the closure gives is what the step gains. Assumes nothing.
use Rattle.std.proofs.Common.{rules, ◌≡◌, ◌∙◌}
use mathlib.Core.Path.{subst⁻¹}
use Rattle.chain.specs.declared.Position.{Position}
use Rattle.chain.specs.declared.steps.Ready.TheVariants.{Turned}
use Rattle.chain.specs.Parts.{gain}
use Rattle.chain.specs.Axes.{Small}
use Rattle.chain.specs.Ready.{ready_parts}
use Rattle.chain.proofs.Prepared.{gain-small}
use Rattle.chain.proofs.Ways.{three-turns}
use Rattle.chain.proofs.steps.turn_by.Goals as goal

pub moved_by-requires-clause-small : goal.moved_by-requires-clause-small
moved_by-requires-clause-small c = λ p g s e.
    let same : g ≡ gain (ready_parts (Turned c.args.t)) p = search rules in
    subst⁻¹ (λ (x : Position). Small 180000000 x) same (gain-small (Turned c.args.t) p c.requires.0 s)

pub returns : goal.returns
returns c = c.moved_by.ensures (ready_parts (Turned c.args.t)) (λ p g s e. search rules) ∙ three-turns c.args.direction _ c.args.p
