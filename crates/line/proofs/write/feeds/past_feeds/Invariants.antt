use Rattle.std.proofs.Common.{ℕ, ◌+◌, ◌<◌, ◌≤◌}
use Rattle.line.specs.BareLines.{Feed}
use Rattle.line.proofs.write.feeds.past_feeds.Given as goal

abbrev pub invariant-loop-place : goal.invariant-loop-place
invariant-loop-place l = (l.from ≤ l.place) × (l.place ≤ l.from + l.most) × ((i : ℕ) → l.from + i < l.place → Feed l.input (l.from + i))
