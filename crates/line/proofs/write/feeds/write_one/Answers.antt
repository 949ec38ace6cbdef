-- `line::write::feeds::write_one` meets its contract. Assumes nothing.
use Rattle.std.proofs.Common.{sym, refl, arith}
use Rattle.line.proofs.Texts as T
use Rattle.line.proofs.BareLines.{only, feeds-one, feeds-none}
use Rattle.line.proofs.write.feeds.write_one.Goals as goal

pub returns-then-input-from-eq-LINE_FEED : goal.returns-then-input-from-eq-LINE_FEED
returns-then-input-from-eq-LINE_FEED c =
    let call = c.write_refusal-past in
    record { some = λ f. omega arith; each = only (record { inside = omega arith; byte = omega arith }); wrote = T.as-text (feeds-one _) (rw c.number.ensures at call.ensures) }

pub returns-else-input-from-eq-LINE_FEED : goal.returns-else-input-from-eq-LINE_FEED
returns-else-input-from-eq-LINE_FEED c = record { some = λ f. absurd (c.if-input-from-eq-LINE_FEED.false f.byte); each = λ i h. absurd (omega arith); wrote = T.as-text (sym (feeds-none 0 _ refl)) (T.nothing _ _) }

pub returns-else-from-input : goal.returns-else-from-input
returns-else-from-input c = record { some = λ f. absurd (omega (arith, f.inside)); each = λ i h. absurd (omega arith); wrote = T.as-text (sym (feeds-none 0 _ refl)) (T.nothing _ _) }
