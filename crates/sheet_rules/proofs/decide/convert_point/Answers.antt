-- `sheet_rules::decide::convert_point` meets its contract. Assumes nothing.
use mathlib.Core.Path.{◌≡◌, refl, sym, ◌∙◌}
use mathlib.Core.Bool.{true, false, or-true}
use Rattle.sheet_rules.proofs.Laws.{answered, gave-refusal, gave-point}
use Rattle.sheet_rules.proofs.decide.convert_point.Goals as goal

pub returns-then-state : goal.returns-then-state
returns-then-state c =
    λ s h.
    let q : s.refused ≡ true = sym h.refused ∙ c.if-state.true in rw q (gave-refusal h _ _ _ _ c.if-state.true (sym (or-true s.closed)) _ _ _ (rw c.closing-closed.ensures at c.refuse.ensures))

pub returns-in-Err : goal.returns-in-Err
returns-in-Err c =
    λ s h.
    let q : s.refused ≡ false = sym h.refused ∙ c.if-state.false in
    let e = answered h c.args.point c.requires (sym c.in-Err.ensures) in
    rw (q, e) (gave-refusal h _ _ _ _ c.if-state.false (sym (or-true s.closed)) _ _ _ (rw c.closing-closed.ensures at c.refuse-in-Err.ensures))

pub returns-in-Ok : goal.returns-in-Ok
returns-in-Ok c =
    λ s h.
    let q : s.refused ≡ false = sym h.refused ∙ c.if-state.false in
    let e = answered h c.args.point c.requires (sym c.in-Ok.ensures) in
    rw (q, e) (gave-point h _ _ _ _ c.if-state.false (sym (or-true s.closed)) _ _ refl c.closing-closed.ensures)
