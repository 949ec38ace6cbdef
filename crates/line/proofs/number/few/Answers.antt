-- `line::number::few` meets its contract. Assumes nothing.
use Rattle.std.proofs.Common.{◌-◌, arith}
use Rattle.line.proofs.Numbers as N
use Rattle.line.proofs.Ahead as L
use Rattle.line.proofs.number.few.Goals as goal

pub loop-init : goal.loop-init
loop-init c = (omega arith, omega (arith, c.requires), λ v n g. g)

pub overflow_mul-a : goal.overflow_mul-a
overflow_mul-a c = let k = c.loop in omega (arith, L.below-cap k.counter k.a k.invariant.0 k.invariant.1)

pub overflow_add-a : goal.overflow_add-a
overflow_add-a c = let k = c.loop in omega (arith, L.below-cap k.counter k.a k.invariant.0 k.invariant.1)

pub loop-preserved : goal.loop-preserved
loop-preserved c =
    let k = c.loop in
    let d = c.if-not-is_ascii_digit.ensures.cases in
    (omega arith, L.grown k.counter k.a (c.wide.result - 48) k.invariant.1 (omega (arith, d)), λ v n g. k.invariant.2 v n (N.digit-on k.a _ g (omega arith) (omega arith) d.0 d.1))

pub returns-after-loop : goal.returns-after-loop
returns-after-loop c = let k = c.loop in (k.invariant.2, L.below-cap k.counter k.a k.invariant.0 k.invariant.1)

pub returns-then-s-i : goal.returns-then-s-i
returns-then-s-i c = let k = c.loop in (k.invariant.2, L.below-cap k.counter k.a k.invariant.0 k.invariant.1)

pub returns-then-not-is_ascii_digit : goal.returns-then-not-is_ascii_digit
returns-then-not-is_ascii_digit c = let k = c.loop in (k.invariant.2, L.below-cap k.counter k.a k.invariant.0 k.invariant.1)
