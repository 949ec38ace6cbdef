-- `line::name::eight` meets its contract. Assumes nothing.
use Rattle.std.proofs.Common.{◌≡◌, ◌+◌, ◌-◌, sym, refl, ◌∙◌, arith}
use Rattle.line.proofs.Names as N
use Rattle.line.proofs.name.eight.Goals as goal

pub loop-init : goal.loop-init
loop-init c = (N.run_none _ _, refl, omega arith)

pub overflow_mul-value : goal.overflow_mul-value
overflow_mul-value c =
    let k = c.loop in
    record { fits = N.product-fits k.invariant.0 (omega arith) c.wide.result k.scale (omega (arith, c.type_inv.s k.i)) k.invariant.1 }

pub overflow_add-value : goal.overflow_add-value
overflow_add-value c =
    let k = c.loop in
    record { fits = N.sum_fits k.invariant.0 (omega arith) c.wide.result k.scale (omega (arith, c.type_inv.s k.i)) k.invariant.1 }

pub loop-preserved : goal.loop-preserved
loop-preserved c =
    let k = c.loop in
    let e : 8 - k.counter - 1 ≡ 8 - (k.counter + 1) = omega arith in
    (rw (sym e) (N.run_more k.invariant.0 (omega arith) c.wide.result k.scale (omega arith) (sym c.is_name_byte.ensures ∙ c.if-not-is_name_byte.false) c.wide.ensures.0 (omega (arith, c.type_inv.s k.i)) k.invariant.1), rw (sym e) (N.scale-next k.invariant.0 (omega arith) k.scale k.invariant.1), omega arith)

pub returns-after-loop : goal.returns-after-loop
returns-after-loop c = let k = c.loop in record { left = 8 - k.counter; run = k.invariant.0; last = λ h. absurd (omega arith) }

pub returns-then-s-i : goal.returns-then-s-i
returns-then-s-i c = let k = c.loop in record { left = 8 - k.counter; run = k.invariant.0; last = λ h. N.past_off c.args.s.now k.i (omega arith) }

pub returns-then-not-is_name_byte : goal.returns-then-not-is_name_byte
returns-then-not-is_name_byte c = let k = c.loop in record { left = 8 - k.counter; run = k.invariant.0; last = λ h. sym c.is_name_byte.ensures ∙ c.if-not-is_name_byte.true }
