-- `chain::checks::entry_fault` meets its contract: the tests in the order of the definition. Assumes nothing.
use native.Mathlib.Omega.{arith}
use mathlib.Core.Bool.{true, false}
use Rattle.chain.specs.Faults.{point_fault}
use Rattle.chain.proofs.Within.{two_places}
use Rattle.chain.proofs.checks.entry_fault.Goals as goal

pub returns-then-ne : goal.returns-then-ne
unfolding point_fault
returns-then-ne c = let e = two_places c.args.point.realization c.args.wanted true c.if-ne.ensures in grind (arith, e)

pub returns-then-not-in_area : goal.returns-then-not-in_area
unfolding point_fault
returns-then-not-in_area c = let e = two_places c.args.point.realization c.args.wanted false c.if-ne.ensures in grind (arith, e)

pub returns : goal.returns
unfolding point_fault
returns c = let e = two_places c.args.point.realization c.args.wanted false c.if-ne.ensures in grind (arith, e)
