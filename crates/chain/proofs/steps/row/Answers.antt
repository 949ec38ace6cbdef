-- `chain::steps::row` meets its contract: the table is the definition. Assumes nothing.
use mathlib.Core.Path.{◌≡◌, sym, ◌∙◌, ap}
use mathlib.Core.Bool.{Bool, true, false}
use mathlib.Core.List.{[]}
use lib.IntN.{pos}
use lib.ListN.{get_or}
use Rattle.refusal.specs.Order.{pick}
use Rattle.rounding.proofs.Machine.{rd}
use Rattle.ranges.specs.Ranges.{equal}
use Rattle.chain.specs.Rows.{rows, row_index, row_of}
use Rattle.chain.proofs.steps.row.Tie as tie
use Rattle.chain.proofs.steps.row.Lts as lts
use Rattle.chain.proofs.steps.row.Reads as reads
use Rattle.chain.proofs.steps.row.Goals as goal

abbrev TheStart : Type 0
TheStart = lts.Start tie.the-claims reads.Pre reads.Post

-- the table's row for the test's answer
chosen : (s : TheStart) (b : Bool) → equal (pos 9) s.args.datum ≡ b → get_or rows (pick b 1 0) [] ≡ row_of s.args.datum
unfolding row_of row_index
chosen s b e = ap (λ (t : Bool). get_or rows (pick t 1 0) []) (sym e)

pub returns-then-equal : goal.returns-then-equal
returns-then-equal c =
    let s = c.before.before.before in
    chosen s true (sym (c.equal.ensures ∙ ap (equal (pos 9)) (rd s.ranges.datum)) ∙ c.if-equal.true)

pub returns : goal.returns
returns c =
    let s = c.before.before.before in
    chosen s false (sym (c.equal.ensures ∙ ap (equal (pos 9)) (rd s.ranges.datum)) ∙ c.if-equal.false)
