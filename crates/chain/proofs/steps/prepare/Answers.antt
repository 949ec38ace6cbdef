-- `chain::steps::prepare` meets its contract: each arm prepares its kind. Assumes nothing.
use mathlib.Core.Path.{sym, ◌∙◌, ap}
use Rattle.chain.specs.declared.Kind.{Kind}
use Rattle.chain.specs.declared.steps.Ready.{Ready}
use Rattle.chain.specs.declared.steps.Ready.TheVariants.{Fixed, Turned, Scaled}
use Rattle.chain.specs.Ready.{ready_kind}
use Rattle.chain.proofs.steps.prepare.Tie as tie
use Rattle.chain.proofs.steps.prepare.Lts as lts
use Rattle.chain.proofs.steps.prepare.Reads as reads
use Rattle.chain.proofs.steps.prepare.Goals as goal

abbrev TheStart : Type 0
TheStart = lts.Start tie.the-claims reads.Pre reads.Post

pub velocity_ready-requires : goal.velocity_ready-requires
velocity_ready-requires c = (c.requires, c.in-Velocity.is)

pub bursa_wolf_ready-requires : goal.bursa_wolf_ready-requires
bursa_wolf_ready-requires c = (c.requires, c.in-BursaWolf.is)

pub frame_ready-requires : goal.frame_ready-requires
frame_ready-requires c = (c.requires, c.in-Frame.is)

-- what each kind is made ready as, of the kind that the match found
module _ (s : TheStart) where
  abbrev by : Kind → Ready
  by k = ready_kind k s.args.step.before s.args.step.after

pub returns-in-Shift : goal.returns-in-Shift
unfolding ready_kind
returns-in-Shift c = ap Fixed c.shift_ready.ensures ∙ ap (by c.before.before) (sym c.in-Shift.is)

pub returns-in-Velocity : goal.returns-in-Velocity
unfolding ready_kind
returns-in-Velocity c = ap Fixed c.velocity_ready.ensures ∙ ap (by c.before.before) (sym c.in-Velocity.is)

pub returns-in-BursaWolf : goal.returns-in-BursaWolf
unfolding ready_kind
returns-in-BursaWolf c = ap Turned c.bursa_wolf_ready.ensures ∙ ap (by c.before.before) (sym c.in-BursaWolf.is)

pub returns-in-Frame : goal.returns-in-Frame
unfolding ready_kind
returns-in-Frame c = ap Scaled c.frame_ready.ensures ∙ ap (by c.before.before) (sym c.in-Frame.is)
