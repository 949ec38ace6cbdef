use Rattle.std.proofs.Common.{◌≡◌, ℕ, ◌-◌, ◌<◌, ◌≤◌, List, length}
use Rattle.line.specs.Text.{letters, Wrote}
use Rattle.line.proofs.write.word.Given as goal

abbrev pub invariant-loop : goal.invariant-loop
invariant-loop l = (l.v < 18446744073709551616) × (length l.out ≡ length l.initial.out) × (l.counter ≤ 8) × ((m : List ℕ) (r : ℕ) → Wrote l.out l.p (letters (8 - l.counter) l.v) m r → Wrote l.initial.out l.at (letters 8 l.w) m r)
