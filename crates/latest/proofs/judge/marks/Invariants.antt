use mathlib.Core.Path.{◌≡◌}
use Prim.Native.Nat.{ℕ, ◌≤◌, ◌<◌, ◌-◌}
use lib.ListN.{length, get_or}
use Rattle.latest.specs.Rows.{group, text}
use Rattle.latest.specs.Marks.{mark_of}
use Rattle.latest.proofs.judge.marks.Given as goal

abbrev pub invariant-loop-k : goal.invariant-loop-k
invariant-loop-k l = (1 ≤ l.k) × (l.k ≤ l.n) × (l.n ≡ length l.o) × (length l.w ≡ length l.initial.w) ×
    ((p : ℕ) → p < l.k → get_or l.w p 0 ≡ mark_of (group l.rows) (text l.rows) l.o p)
