-- `capi::joining::copy` meets its contract: what is left to store, from index at + i on, makes the whole. Assumes nothing.
use mathlib.Core.Path.{◌≡◌, refl, sym, ◌∙◌, ap}
use mathlib.Core.List.{List}
use Prim.Native.Nat.{ℕ, suc, ◌+◌, ◌<◌}
use native.Mathlib.Nat.{add-zero}
use native.Mathlib.Omega.{arith}
use borrow.Author.Rules.{rules}
use lib.IntN.{ℤ, pos}
use lib.ListN.{length, get_or, drop, set, length-set, drop_of_length-le}
use lib.Seq.{sets, drop-cons}
use mir.Syntax.{w64}
use mir.Val.{to_z, of_z}
use Rattle.capi.proofs.joining.copy.Goals as goal

-- one number more
turn : (out from : List ℤ) (at i : ℕ) → i < length from → sets (set out (at + i) (get_or from i (pos 0))) (at + (i + 1)) (drop (i + 1) from) ≡ sets out (at + i) (drop i from)
turn out from at i h =
    let e : at + (i + 1) ≡ suc (at + i) = omega arith in
    let f : i + 1 ≡ suc i = omega arith in
    rw (drop-cons from i (pos 0) h, e, f)

pub loop-i-init : goal.loop-i-init
loop-i-init c = (refl, rw add-zero)

pub loop-i-preserved : goal.loop-i-preserved
loop-i-preserved c =
    let k = c.loop-i in
    let s = c.args in
    let h = c.loop-i-test.true in
    let x = get_or s.from.now k.i (pos 0) in
    let same : to_z w64 (of_z w64 x) ≡ x = search rules in
    (length-set k.out _ _ ∙ k.invariant.0, rw same (turn k.out s.from.now s.at k.i h ∙ k.invariant.1))

pub returns : goal.returns
returns c =
    let k = c.loop-i in
    let s = c.args in
    ap (λ (l : List ℤ). sets k.out (s.at + k.i) l) (sym (drop_of_length-le s.from.now {i = k.i} (omega (arith, c.loop-i-test.false)))) ∙ k.invariant.1
