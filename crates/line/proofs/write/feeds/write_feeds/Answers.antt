-- `line::write::feeds::write_feeds` meets its contract. Assumes nothing.
use Rattle.std.proofs.Common.{refl, arith}
use Rattle.line.proofs.BareLines.{fed-ten}
use Rattle.line.proofs.write.feeds.write_feeds.Goals as goal

pub of_one_ten-written-requires : goal.of_one_ten-written-requires
of_one_ten-written-requires c =
    let past = c.past_feeds-past.ensures in
    let t = c.ten_at_once.ensures c.if-ten_at_once.true in
    (t.0, t.1, omega (arith, past.few, past.from), t.2)

pub returns-then-ten_at_once : goal.returns-then-ten_at_once
returns-then-ten_at_once c = fed-ten _ (omega arith) refl c.past_feeds-past.ensures c.of_one_ten-written.ensures
