-- `sheet_stream::without_end` meets its contract. Assumes nothing.
use mathlib.Core.Path.{◌≡◌, ◌∙◌}
use native.Mathlib.Omega.{arith}
use lib.ListN.{length, length-set}
use Rattle.sheet_stream.proofs.Scanning as L
use borrow.Author.Rules.{rules}
use Rattle.sheet_stream.proofs.without_end.Goals as goal

pub returns-then-kept-count-eq-LINE_FEED : goal.returns-then-kept-count-eq-LINE_FEED
returns-then-kept-count-eq-LINE_FEED c =
    let a = c.args in
    let p = c.requires in
    let z : length a.kept ≡ 200 = search rules in
    (length-set a.kept _ 0 ∙ z, L.unended-one a.kept a.count p.0 (omega (arith, z, p.1)) c.if-kept-count-eq-LINE_FEED.true)

pub returns-else-kept-count-eq-LINE_FEED : goal.returns-else-kept-count-eq-LINE_FEED
returns-else-kept-count-eq-LINE_FEED c =
    let a = c.args in
    let p = c.requires in
    let z : length a.kept ≡ 200 = search rules in
    (z, L.unended-none a.kept a.count p.0 (omega (arith, z, p.1)) c.if-kept-count-eq-LINE_FEED.false)
