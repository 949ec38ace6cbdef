-- `lot_plan::chain_text::take_line` meets its contract. Assumes nothing.
use borrow.Author.Rules.{rules}
use mathlib.Core.Path.{◌≡◌, ap}
use mir.Syntax.{w64}
use mir.Val.{to_z, of_z}
use borrow.Author.Tests.{eq-eqb, ne_eqb}
use Rattle.std.proofs.Common.{Result, Err, ℤ, ℕ}
use Rattle.line.specs.Answers.{Fault}
use Rattle.line.specs.Bytes.{letter_s, letter_e}
use Rattle.lot_plan.specs.LotPlan.{with_line}
use Rattle.lot_plan.proofs.chain_text.take_line.Goals as goal

pub returns-then-letter-eq83 : goal.returns-then-letter-eq83
unfolding with_line
returns-then-letter-eq83 c =
    λ ss none h.
    let p : to_z w64 (of_z w64 c.args.profile) ≡ c.args.profile = search rules in
    let t = rw p at c.take_step.ensures in
    rw (eq-eqb _ letter_s c.if-letter-eq83.true) (t ss h)

pub returns-then-letter-eq69 : goal.returns-then-letter-eq69
unfolding with_line
returns-then-letter-eq69 c =
    λ ss none h.
    rw (ne_eqb _ letter_s c.if-letter-eq83.false, eq-eqb _ letter_e c.if-letter-eq69.true) (c.take_edition.ensures _ ss _ none h)

told-fault : Fault → Result ℤ ℕ
told-fault f = Err f.number

pub returns : goal.returns
unfolding with_line told-fault
returns c =
    λ ss none h.
    rw (ne_eqb _ letter_s c.if-letter-eq83.false, ne_eqb _ letter_e c.if-letter-eq69.false) (ap told-fault c.strange.ensures)
