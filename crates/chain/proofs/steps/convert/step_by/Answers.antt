-- `chain::steps::convert::step_by` meets its contract: each kind by what it is made ready as. Assumes nothing.
use mathlib.Core.Path.{◌∙◌, subst⁻¹}
use Rattle.chain.specs.declared.Position.{Position}
use Rattle.chain.specs.declared.steps.Turn.{Turn}
use Rattle.chain.specs.declared.steps.Scale.{Scale}
use Rattle.chain.specs.declared.steps.Ready.TheVariants.{Fixed, Turned, Scaled}
use Rattle.chain.specs.Ready.{Prepares}
use Rattle.chain.proofs.Prepared.{shift-prepares, velocity-prepares, turn-prepares, frame-prepares, way-same}
use Rattle.chain.proofs.Within.{area_small}
use Rattle.chain.proofs.steps.convert.step_by.Tie as tie
use Rattle.chain.proofs.steps.convert.step_by.Lts as lts
use Rattle.chain.proofs.steps.convert.step_by.Reads as reads
use Rattle.chain.proofs.steps.convert.step_by.Goals as goal

abbrev TheAfterBursaWolfReady : Type 0
TheAfterBursaWolfReady = lts.After-bursa_wolf_ready tie.the-claims reads.Pre reads.Post

abbrev TheAfterFrameReady : Type 0
TheAfterFrameReady = lts.After-frame_ready tie.the-claims reads.Pre reads.Post

abbrev TheAfterShiftReady : Type 0
TheAfterShiftReady = lts.After-shift_ready tie.the-claims reads.Pre reads.Post

abbrev TheAfterVelocityReady : Type 0
TheAfterVelocityReady = lts.After-velocity_ready tie.the-claims reads.Pre reads.Post

-- what each kind was made ready as is ready for the step
shifted : (c : TheAfterShiftReady) → Prepares c.args.step (Fixed c.shift_ready.result)
shifted c =
    let s = c in
    subst⁻¹ (λ (g : Position). Prepares s.args.step (Fixed g)) c.shift_ready.ensures (shift-prepares s.args.step s.requires.0 _ c.in-Shift.is)

moved : (c : TheAfterVelocityReady) → Prepares c.args.step (Fixed c.velocity_ready.result)
moved c =
    let s = c in
    subst⁻¹ (λ (g : Position). Prepares s.args.step (Fixed g)) c.velocity_ready.ensures (velocity-prepares s.args.step s.requires.0 _ c.in-Velocity.is)

turned : (c : TheAfterBursaWolfReady) → Prepares c.args.step (Turned c.bursa_wolf_ready.result)
turned c =
    let s = c in
    subst⁻¹ (λ (t : Turn). Prepares s.args.step (Turned t)) c.bursa_wolf_ready.ensures (turn-prepares s.args.step s.requires.0 _ c.in-BursaWolf.is)

scaled : (c : TheAfterFrameReady) → Prepares c.args.step (Scaled c.frame_ready.result)
scaled c =
    let s = c in
    subst⁻¹ (λ (t : Scale). Prepares s.args.step (Scaled t)) c.frame_ready.ensures (frame-prepares s.args.step s.requires.0 c.in-Frame.is)

pub fixed_by-requires : goal.fixed_by-requires
fixed_by-requires c = let s = c in ((shifted c).ok, area_small s.args.p s.requires.1)

pub velocity_ready-requires : goal.velocity_ready-requires
velocity_ready-requires c = (c.requires.0, c.in-Velocity.is)

pub fixed_by-requires-in-Velocity : goal.fixed_by-requires-in-Velocity
fixed_by-requires-in-Velocity c = let s = c in ((moved c).ok, area_small s.args.p s.requires.1)

pub bursa_wolf_ready-requires : goal.bursa_wolf_ready-requires
bursa_wolf_ready-requires c = (c.requires.0, c.in-BursaWolf.is)

pub turn_by-requires : goal.turn_by-requires
turn_by-requires c = let s = c in ((turned c).ok, area_small s.args.p s.requires.1)

pub frame_ready-requires : goal.frame_ready-requires
frame_ready-requires c = (c.requires.0, c.in-Frame.is)

pub scale_by-requires : goal.scale_by-requires
scale_by-requires c = let s = c in ((scaled c).ok, area_small s.args.p s.requires.1)

pub returns-in-Shift : goal.returns-in-Shift
returns-in-Shift c = let s = c in c.fixed_by.ensures ∙ way-same s.args.step _ (shifted c.before) s.args.direction s.args.p

pub returns-in-Velocity : goal.returns-in-Velocity
returns-in-Velocity c = let s = c in c.fixed_by-in-Velocity.ensures ∙ way-same s.args.step _ (moved c.before) s.args.direction s.args.p

pub returns-in-BursaWolf : goal.returns-in-BursaWolf
returns-in-BursaWolf c = let s = c in c.turn_by.ensures ∙ way-same s.args.step _ (turned c.before) s.args.direction s.args.p

pub returns-in-Frame : goal.returns-in-Frame
returns-in-Frame c = let s = c in c.scale_by.ensures ∙ way-same s.args.step _ (scaled c.before) s.args.direction s.args.p
