use Prim.Native.Nat.{◌-◌}
use mathlib.Core.Path.{◌≡◌}
use native.Mathlib.Omega.{arith}
use lib.ListN.{length}
use mir.Syntax.{w64}
use mir.Val.{to_z, of_z}
use Rattle.line.proofs.Lines.{piece}
use Rattle.lot_plan.proofs.Text.{Midway, begins, goes_on, stops, ends}
use borrow.Author.Rules.{rules}
use Rattle.lot_plan.proofs.chain_text.read_chain.Given as goal

abbrev pub invariant-loop-from : goal.invariant-loop-from
invariant-loop-from l = Midway l.text l.profile l.numbers l.from

abbrev pub decreases-loop-from : goal.decreases-loop-from
decreases-loop-from l = length l.text - l.from
