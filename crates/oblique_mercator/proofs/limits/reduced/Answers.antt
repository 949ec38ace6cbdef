-- `oblique_mercator::limits::reduced` meets its contract. Assumes nothing.
use mathlib.Core.Path.{◌≡◌, sym, subst}
use mathlib.Core.Bool.{Bool, true}
use Prim.Native.Nat.{◌≤◌}
use native.Mathlib.Omega.{arith}
use lib.IntN.{ℤ, pos, nat_abs, ◌-ℤ◌}
use mir.Syntax.{w64}
use mir.Val.{SFits, to_z, of_z}
use mir.ValLaws.{to_z-of_z}
use Rattle.ranges.proofs.Ranges.{told, natural}
use Rattle.rounding.proofs.Zn as zn
use Rattle.rounding.proofs.Zn.{◌⊖◌}
use Rattle.angle.proofs.Wholes.{fits}
use Rattle.oblique_mercator.specs.Parameters.{past_turn, reduced}
use Rattle.oblique_mercator.proofs.Wholes.{sized-upto}
use Rattle.oblique_mercator.proofs.limits.reduced.Goals as goal

past : (z : ℤ) {r t : Bool} → SFits w64 z → r ≡ past_turn (to_z w64 (of_z w64 z)) → r ≡ t → past_turn z ≡ t
past z f e h = told (pos 108000000000) z (pos 118800000000) f e h

-- less a full turn it fits
less-fits : (z : ℤ) → past_turn z ≡ true → SFits w64 (z -ℤ pos 129600000000)
less-fits z h =
    let p = natural 108000000000 z 118800000000 h in
    let l = p.low in
    let m = p.high in
    let s : nat_abs (pos p.n -ℤ pos 129600000000) ≤ 21600000000 = zn.abs (zn.k p.n ⊖ zn.k 129600000000) (omega arith) (omega arith) in
    subst (λ (y : ℤ). SFits w64 (y -ℤ pos 129600000000)) (sym p.is) (fits 21600000000 (pos p.n -ℤ pos 129600000000) tt (sized-upto 21600000000 (pos p.n -ℤ pos 129600000000) s))

pub overflow_sub-result : goal.overflow_sub-result
overflow_sub-result c =
    let z = c.args.z in
    let f = c.ranges.z in
    rw (to_z-of_z w64 z f) (less-fits z (past z f c.is_past_turn.ensures c.if-is_past_turn.true))

pub returns-then-is_past_turn : goal.returns-then-is_past_turn
unfolding reduced
returns-then-is_past_turn c =
    let z = c.args.z in
    let f = c.ranges.z in
    let e = past z f c.is_past_turn.ensures c.if-is_past_turn.true in
    rw (to_z-of_z w64 z f, to_z-of_z w64 (z -ℤ pos 129600000000) (less-fits z e), e)

pub returns : goal.returns
unfolding reduced
returns c = rw (to_z-of_z w64 c.args.z c.ranges.z, past c.args.z c.ranges.z c.is_past_turn.ensures c.if-is_past_turn.false)
