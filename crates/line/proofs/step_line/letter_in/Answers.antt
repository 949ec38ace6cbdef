-- `line::step_line::letter_in` meets its contract. Assumes nothing.
use Rattle.std.proofs.Common.{refl, sym, ◌∙◌, arith}
use Rattle.line.proofs.Walk as W
use Rattle.line.proofs.step_line.letter_in.Goals as goal

pub returns-then-contains : goal.returns-then-contains
returns-then-contains c = W.sift c.args.letters.now c.single-c.ensures (W.one-is c.args.letters.now _ (sym c.contains.ensures.value ∙ c.if-contains.true)) refl

pub returns-else-contains : goal.returns-else-contains
returns-else-contains c =
    W.sift-off c.args.letters.now c.single-c.ensures (W.one-is_not c.args.letters.now _ (sym c.contains.ensures.value ∙ c.if-contains.false)) (omega arith)
