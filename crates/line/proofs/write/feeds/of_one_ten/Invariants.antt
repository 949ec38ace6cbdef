use Rattle.std.proofs.Common.{◌≡◌, ℕ, ◌+◌, ◌-◌, ◌*◌, ◌%◌, ◌≤◌, List, length}
use Rattle.line.specs.Text.{Wrote}
use Rattle.line.specs.BareLines.{feeds_text}
use Rattle.line.proofs.write.feeds.of_one_ten.Given as goal

abbrev pub invariant-loop-last : goal.invariant-loop-last
invariant-loop-last l = (l.first ≡ 48 + l.line % 10) × (l.first ≤ l.last) × (l.last ≤ l.first + l.lines) × (length l.out ≡ length l.initial.out) × (l.place ≤ l.at + 13 * (l.last - l.first)) × ((m : List ℕ) (r : ℕ) → Wrote l.out l.place (feeds_text (l.first + l.lines - l.last) (l.line + (l.last - l.first))) m r → Wrote l.initial.out l.at (feeds_text l.lines l.line) m r)
