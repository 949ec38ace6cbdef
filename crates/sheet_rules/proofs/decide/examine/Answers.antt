-- `sheet_rules::decide::examine` meets its contract. Assumes nothing.
use mathlib.Core.Path.{sym, ◌∙◌}
use Rattle.sheet_rules.specs.Sheet.{reply_of, next_of}
use Rattle.sheet_rules.proofs.Laws.{gave-malformed}
use Rattle.sheet_rules.proofs.decide.examine.Goals as goal

pub returns-then-begins_with : goal.returns-then-begins_with
unfolding reply_of next_of
returns-then-begins_with c = λ s h. rw (sym c.begins_with.ensures ∙ c.if-begins_with.true) (c.decide_step.ensures s h)

pub returns-then-begins_with-2 : goal.returns-then-begins_with-2
unfolding reply_of next_of
returns-then-begins_with-2 c =
    λ s h. rw (sym c.begins_with.ensures ∙ c.if-begins_with.false, sym c.begins_with-2.ensures ∙ c.if-begins_with-2.true) (c.decide_point.ensures s h)

pub returns-then-begins_with-3 : goal.returns-then-begins_with-3
unfolding reply_of next_of
returns-then-begins_with-3 c =
    λ s h. rw (sym c.begins_with.ensures ∙ c.if-begins_with.false, sym c.begins_with-2.ensures ∙ c.if-begins_with-2.false, sym c.begins_with-3.ensures ∙ c.if-begins_with-3.true)
    (c.decide_edition.ensures s _ h)

pub returns : goal.returns
unfolding reply_of next_of
returns c =
    λ s h. rw (sym c.begins_with.ensures ∙ c.if-begins_with.false, sym c.begins_with-2.ensures ∙ c.if-begins_with-2.false, sym c.begins_with-3.ensures ∙ c.if-begins_with-3.false)
    (gave-malformed h _ _ _ _ h.refused h.closed c.strange-fault.ensures _ c.refuse.ensures)
