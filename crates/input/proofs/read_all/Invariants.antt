use Prim.Native.Nat.{ℕ, ◌≤◌, ◌-◌}
use mathlib.Core.Path.{◌≡◌}
use lib.ListN.{length}
use Rattle.std.proofs.Common.{Option}
use Rattle.input.specs.Input.{Reads}
use Rattle.input.proofs.read_all.Given as goal

abbrev pub invariant-loop-answer : goal.invariant-loop-answer
invariant-loop-answer g l = (l.held ≤ length l.buffer) × (length l.buffer ≡ length l.initial.buffer) × ((a : Option ℕ) → Reads (length l.buffer) l.held a → Reads (length l.buffer) 0 a)

abbrev pub decreases-loop-answer : goal.decreases-loop-answer
decreases-loop-answer g l = length l.buffer - l.held
