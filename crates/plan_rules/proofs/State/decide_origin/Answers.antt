-- `plan_rules::State::decide_origin` meets its contract: an origin whose line is good by itself is made. Assumes nothing.
use mathlib.Core.Path.{sym, ap, ◌∙◌}
use Rattle.refusal.specs.Refusals.{told}
use Rattle.angle.proofs.Made.{never-refused}
use Rattle.line.specs.Answers.{line_told}
use Rattle.line.proofs.Readers.{origin-sound}
use Rattle.plan_rules.proofs.State.decide_origin.Goals as goal

pub returns-in_err-origin : goal.returns-in_err-origin
returns-in_err-origin c = λ p h.
    let good = origin-sound _ _ (sym c.read_origin-read.ensures ∙ ap line_told c.in_ok-read.was) in
    absurd (never-refused _ _ good (sym c.make_origin.ensures ∙ ap told c.in_err-origin.was))
