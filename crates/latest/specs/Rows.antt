-- The rows of the pile's good lines, as the code has them: how many there are, and what each of them bears.
use Rattle.std.specs.Prelude.{ℕ, List, length}
use Rattle.latest.specs.declared.rows.Rows.{Rows}
use Rattle.latest.specs.Pile.{Row}
use Rattle.latest.specs.Rank.{key_of, group_of, rank_of}
use Rattle.latest.specs.Columns.{text_in, rows_of}

abbrev pub size : Rows → ℕ
size r = length r.high.now

abbrev pub key : Rows → ℕ → ℕ
key r = key_of r.high.now r.low.now

abbrev pub group : Rows → ℕ → ℕ
group r = group_of r.high.now r.low.now r.issue.now

abbrev pub rank : Rows → ℕ → ℕ
rank r = rank_of r.high.now r.low.now r.issue.now

abbrev pub text : Rows → ℕ → List ℕ
text r = text_in r.pile.now r.begin.now

abbrev pub listed : Rows → List Row
listed r = rows_of r.pile.now r.high.now r.low.now r.issue.now r.begin.now
