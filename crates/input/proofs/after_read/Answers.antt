-- `input::after_read` meets its contract: each answer is the definition's, by the tests that led there. Assumes nothing.
use native.Mathlib.Omega.{arith}
use borrow.Author.Tests.{ne_eqb, eq-eqb, lt-ltb, le-ltb}
use Prim.Native.Nat.{◌+◌}
use Rattle.input.specs.Input.{after_read}
use Rattle.input.proofs.after_read.Goals as goal

pub returns-in_default : goal.returns-in_default
unfolding after_read
returns-in_default c = rw c.in_default.is

pub returns-then-bytes-eq0 : goal.returns-then-bytes-eq0
unfolding after_read
returns-then-bytes-eq0 c = rw (c.in-Some.is, eq-eqb c.in-Some.bytes 0 c.if-bytes-eq0.true)

pub returns-then-bytes-saturating_sub : goal.returns-then-bytes-saturating_sub
unfolding after_read
returns-then-bytes-saturating_sub c =
    rw (c.in-Some.is, ne_eqb c.in-Some.bytes 0 c.if-bytes-eq0.false, lt-ltb (c.args.held + c.in-Some.bytes) c.args.room (omega (arith, c.saturating_sub.ensures, c.if-bytes-saturating_sub.true)))

pub returns : goal.returns
unfolding after_read
returns c =
    rw (c.in-Some.is, ne_eqb c.in-Some.bytes 0 c.if-bytes-eq0.false, le-ltb (c.args.held + c.in-Some.bytes) c.args.room (omega (arith, c.saturating_sub.ensures, c.if-bytes-saturating_sub.false)))
