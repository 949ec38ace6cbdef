-- `sheet_rules::decide::standing::answer_line` meets its contract. Assumes nothing.
use mathlib.Core.Path.{refl, sym, ◌∙◌}
use mathlib.Core.Bool.{true, false}
use Rattle.sheet_rules.proofs.OneLine.{unsound-answered, past-told, sound-answered, sound-told, sound-parts, sound-short}
use Rattle.sheet_rules.proofs.decide.standing.answer_line.Goals as goal

pub returns-then-standing-gt-MOST_LINES : goal.returns-then-standing-gt-MOST_LINES
returns-then-standing-gt-MOST_LINES c =
    past-told c.args.standing c.args.text.now c.if-standing-gt-MOST_LINES.true _ c.is_sound.ensures _ (rw c.number.ensures at c.then_some.ensures)

pub returns-then-not-is_counted : goal.returns-then-not-is_counted
returns-then-not-is_counted c =
    let a = c.args in
    unsound-answered a.standing a.text.now (sound-told a.standing false _ (sym c.if-not-is_counted.true ∙ c.is_counted.ensures) refl)

pub returns-then-not-good : goal.returns-then-not-good
returns-then-not-good c =
    let a = c.args in
    unsound-answered a.standing a.text.now
    (sound-told a.standing true false (sym c.if-not-is_counted.false ∙ c.is_counted.ensures) (sym c.if-not-good.true ∙ c.is_ok-good.ensures.value ∙ c.prepare.ensures.told))

pub answer_within-requires : goal.answer_within-requires
answer_within-requires c =
    let a = c.args in
    let s = sound-told a.standing true true (sym c.if-not-is_counted.false ∙ c.is_counted.ensures) (sym c.if-not-good.false ∙ c.is_ok-good.ensures.value ∙ c.prepare.ensures.told) in
    (c.if-standing-gt-MOST_LINES.false, sound-short a.standing s, (sound-parts a.standing s).from, c.prepare.ensures.holds (sym c.is_ok-good.ensures.value ∙ c.if-not-good.false))

pub returns : goal.returns
returns c =
    let a = c.args in
    let s = sound-told a.standing true true (sym c.if-not-is_counted.false ∙ c.is_counted.ensures) (sym c.if-not-good.false ∙ c.is_ok-good.ensures.value ∙ c.prepare.ensures.told) in
    c.answer_within.ensures ∙ sound-answered a.standing a.text.now s
