-- `line::ends::end_near` meets its contract: the first line's length is the same from every byte passed. Assumes nothing.
use Rattle.std.proofs.Common.{length, arith}
use Rattle.std.proofs.Math.Nat.{le-max_left, le-max_right, max-le}
use Rattle.line.specs.Lines.{line_end}
use Rattle.line.proofs.Lines.{length-feed, length_more, length_none}
use Rattle.line.proofs.ends.end_near.Goals as goal

pub loop-place-init : goal.loop-place-init
loop-place-init c = (omega arith, le-max_left c.args.from (length c.args.input.now))

pub returns-then-input-place-eq-LINE_FEED : goal.returns-then-input-place-eq-LINE_FEED
unfolding line_end
returns-then-input-place-eq-LINE_FEED c = omega (arith, length-feed c.args.input.now c.loop-place.place (omega arith) (omega arith))

pub loop-place-preserved : goal.loop-place-preserved
loop-place-preserved c =
    let g = c.args in
    (omega (arith, length_more g.input.now c.loop-place.place (omega arith) (omega arith)), omega (arith, le-max_right g.from (length g.input.now)))

pub returns : goal.returns
unfolding line_end
returns c =
    let g = c.args in
    omega (arith, length_none g.input.now c.loop-place.place (omega arith), max-le {a = g.from} {b = length g.input.now} {k = c.loop-place.place} (omega arith) (omega arith))
