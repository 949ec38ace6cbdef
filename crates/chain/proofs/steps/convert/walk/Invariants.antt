use Rattle.std.proofs.Common.{◌≡◌, true, List, length}
use Rattle.chain.specs.declared.Step.{Step}
use Rattle.chain.specs.Faults.{in_area}
use Rattle.chain.specs.Ways.{StandsAt}
use Rattle.chain.specs.Convert.{step_by}
use Rattle.chain.proofs.Turns.{Leads}
use Rattle.chain.proofs.steps.convert.walk.Given as goal

abbrev pub invariant-loop-gone : goal.invariant-loop-gone
invariant-loop-gone g l = record {
  near : in_area l.p ≡ true;
  leads : (ss : List Step) → length ss ≡ l.count → (stands : StandsAt ss (goal.S-post g l.step_at)) → Leads (step_by l.direction) l.direction (goal.S-post g l.step_at) ss stands l.fn.start l.gone l.p;
}
