-- `plan_rules::State::examine` meets its contract. Assumes nothing.
use mathlib.Core.Path.{ap}
use borrow.Author.Tests.{eq-eqb, ne_eqb}
use Rattle.line.specs.Bytes.{letter_o, letter_g}
use Rattle.plan_rules.specs.Plan.{malformed, reply_of, next_of}
use Rattle.plan_rules.proofs.State.examine.Goals as goal

pub returns-then-letter-eq79 : goal.returns-then-letter-eq79
unfolding reply_of next_of
returns-then-letter-eq79 c = λ p h. rw (eq-eqb _ letter_o c.if-letter-eq79.true) (c.decide_origin.ensures p h)

pub returns-then-letter-eq71 : goal.returns-then-letter-eq71
unfolding reply_of next_of
returns-then-letter-eq71 c = λ p h.
    rw (ne_eqb _ letter_o c.if-letter-eq79.false, eq-eqb _ letter_g c.if-letter-eq71.true) (record { reply = c.decide_geodetic.ensures p h; after = h.origin })

pub returns : goal.returns
unfolding reply_of next_of
returns c = λ p h. rw (ne_eqb _ letter_o c.if-letter-eq79.false, ne_eqb _ letter_g c.if-letter-eq71.false) (record { reply = ap (malformed p) c.strange.ensures; after = h.origin })
