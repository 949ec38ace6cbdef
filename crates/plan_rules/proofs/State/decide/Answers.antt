-- `plan_rules::State::decide` meets its contract. Assumes nothing.
use mathlib.Core.Path.{sym, ap, ◌∙◌}
use Prim.Native.Nat.{ℕ}
use native.Mathlib.Omega.{arith}
use Rattle.plan_rules.specs.State.{unread_reply, reply_told}
use Rattle.plan_rules.proofs.Laws.{next-line}
use Rattle.plan_rules.proofs.State.decide.Goals as goal

pub returns-in-Ok : goal.returns-in-Ok
returns-in-Ok c = λ p h.
    let g = c.examine-examined.ensures p h in
    (sym (ap (reply_told p.line) c.in-Ok.is) ∙ g.reply, record { line = omega (arith, h.line, next-line p c.args.text.now); origin = g.after })

pub returns-in-Err : goal.returns-in-Err
returns-in-Err c = λ p h.
    let g = c.examine-examined.ensures p h in (
      c.refused.ensures ∙ ap (λ (n : ℕ). unread_reply n c.in-Err.unread) (omega (arith, h.line)) ∙ sym (ap (reply_told p.line) c.in-Err.is) ∙ g.reply,
      record { line = omega (arith, h.line, next-line p c.args.text.now); origin = g.after },
    )
