-- `line::write::roomy::word` meets its contract. Assumes nothing.
use Rattle.std.proofs.Common.{◌≡◌, ◌+◌, ◌-◌, sym, refl, ◌∙◌, arith}
use Rattle.line.proofs.Texts as T
use Rattle.line.proofs.write.roomy.word.Goals as goal

pub loop-init : goal.loop-init
loop-init c = (omega arith, refl, omega arith, λ m r g. g)

pub loop-preserved : goal.loop-preserved
loop-preserved c =
    let k = c.loop in
    let e : 8 - k.counter - 1 ≡ 8 - (k.counter + 1) = omega arith in
    (omega arith, c.put-p.auto.out ∙ k.invariant.1, omega (arith, c.put-p.ensures.most, k.invariant.2), λ m r g. k.invariant.3 m r (T.as-text (sym (T.letters-on (8 - k.counter) k.v (omega arith) c.if-b-eq0.false)) (T.«then» c.put-p.ensures.wrote (rw (sym e) at g))))

pub shape_of-out-after-loop : goal.shape_of-out-after-loop
shape_of-out-after-loop c = c.loop.invariant.1

pub returns-after-loop : goal.returns-after-loop
returns-after-loop c = let k = c.loop in record { wrote = k.invariant.3 _ _ (T.as-text (sym (T.letters-none (8 - k.counter) k.v (omega arith))) (T.nothing _ _)); most = omega (arith, k.invariant.2) }

pub shape_of-out-then-b-eq0 : goal.shape_of-out-then-b-eq0
shape_of-out-then-b-eq0 c = c.loop.invariant.1

pub returns-then-b-eq0 : goal.returns-then-b-eq0
returns-then-b-eq0 c = let k = c.loop in record { wrote = k.invariant.3 _ _ (T.as-text (sym (T.letters-end (8 - k.counter) k.v c.if-b-eq0.true)) (T.nothing _ _)); most = omega (arith, k.invariant.2) }
