-- `velocity_grid::step::step_at` meets its contract: the velocity, as a step. Assumes nothing.
use borrow.Author.Rules.{rules}
use mathlib.Core.Path.{◌≡◌, ◌∙◌, ap}
use Prim.Native.Nat.{ℕ}
use Rattle.std.specs.Prelude.{Result, Ok}
use Rattle.rounding.proofs.Machine.{rd, of₃}
use Rattle.chain.specs.declared.Velocity.{Velocity}
use Rattle.angle.proofs.Exits.{told-is}
use Rattle.velocity_grid.specs.Step.{velocity_step, as_step, velocity_step_of}
use Rattle.velocity_grid.proofs.Motions.{same-velocity}
use Rattle.velocity_grid.proofs.step.step_at.Goals as goal

pub returns-in_err-v : goal.returns-in_err-v
unfolding velocity_step_of as_step
returns-in_err-v c =
    let a = c.args in
    let r = c.ranges in
    told-is c.from_residual.result _ c.from_residual.ensures.1
    ∙ ap (λ (w : Result Velocity ℕ). as_step w a.datum a.before a.after)
    (c.in_err-v.ensures ∙ same-velocity a.g a.nodes.now (rd r.latitude) (rd r.longitude) (rd r.datum) (rd r.before) (rd r.after))

pub returns : goal.returns
unfolding velocity_step_of as_step
returns c =
    let a = c.args in
    let r = c.ranges in
    ap Ok (c.velocity_step.ensures ∙ of₃ (velocity_step c.in_ok-v.v) (rd r.datum) (rd r.before) (rd r.after))
    ∙ ap (λ (w : Result Velocity ℕ). as_step w a.datum a.before a.after)
    (c.in_ok-v.ensures ∙ same-velocity a.g a.nodes.now (rd r.latitude) (rd r.longitude) (rd r.datum) (rd r.before) (rd r.after))
