-- Two rows one after the other, and what a join that is not refused says of their lengths. Assumes nothing.
use mathlib.Core.Path.{◌≡◌, refl, sym, ◌∙◌, ap}
use mathlib.Core.Bool.{Bool, true, false, ◌&&◌}
use mathlib.Core.List.{List, [], ◌∷◌, ◌++◌}
use Prim.Native.Nat.{ℕ, suc, ◌+◌, ◌/◌, ◌%◌, ◌≤◌}
use native.Mathlib.Nat.{add-zero}
use native.Mathlib.Omega.{arith}
use borrow.Author.Tests.{eqb-true}
use lib.Dec.{eqb}
use lib.IntN.{ℤ, pos, neg_ℤ}
use lib.ListN.{length, drop, set, length-append, length-take}
use lib.Seq.{sets, sets-eq}
use Rattle.std.specs.Prelude.{Ok, Err}
use Rattle.chain.specs.declared.Chain.{Chain}
use Rattle.chain.specs.Join.{join_of}
use Rattle.chain.proofs.Joins.{accepted-lengths}
use Rattle.chain.specs.Numbers.{eight_from, chain_from}
use Rattle.chain.proofs.LentSteps.{eight-steps}
use Rattle.capi.specs.Joining.{room_for_eight, join_call, Counted}

pub sets-append : (l a b : List ℤ) (i : ℕ) → sets (sets l i a) (i + length a) b ≡ sets l i (a ++ b)
sets-append l [] b i = rw add-zero
sets-append l (x ∷ a) b i = let e : i + suc (length a) ≡ suc i + length a = omega arith in rw e (sets-append (set l i x) a b (suc i))

-- one row and then another, at the start of an array that has room for both
pub one-after-another : (l a b : List ℤ) → length a + length b ≤ length l → sets (sets l 0 a) (length a) b ≡ (a ++ b) ++ drop (length (a ++ b)) l
one-after-another l a b h =
    let e : length a ≡ 0 + length a = omega arith in
    let f : 0 + length (a ++ b) ≡ length (a ++ b) = omega arith in
    ap (λ (k : ℕ). sets (sets l 0 a) k b) e ∙ sets-append l a b 0 ∙ sets-eq (a ++ b) l 0 (omega (arith, length-append a b)) ∙ ap (λ (k : ℕ). (a ++ b) ++ drop k l) f

both : (a b : Bool) → (a && b) ≡ true → (a ≡ true) × (b ≡ true)
both true b e = (refl, e)
both false b e = let z : ◌≡◌ {A = ℕ} 0 1 = cc in absurd (omega arith)

module _ (first second out : ℕ) (sized : room_for_eight first second out ≡ true) where
  pub whole : (first % 13 ≡ 0) × (second % 13 ≡ 0) × (out ≡ 104)
  unfolding room_for_eight
  whole =
      let p = both (eqb (first % 13) 0 && eqb (second % 13) 0) (eqb out 104) sized in
      let q = both (eqb (first % 13) 0) (eqb (second % 13) 0) p.0 in
      (eqb-true (first % 13) 0 q.0, eqb-true (second % 13) 0 q.1, eqb-true out 104 p.1)

-- what is accepted has at most 104 numbers
pub few : (y z : ℤ) (first second : List ℤ) → length first % 13 ≡ 0 → length second % 13 ≡ 0 → {c : Chain} → Ok c ≡ join_of (chain_from y first) (chain_from z second) → length first + length second ≤ 104
few y z first second hf hs {c} e =
    let a = accepted-lengths (chain_from y first) (chain_from z second) c (sym e) in
    omega (arith, a.0, a.1, a.2, length-take (length first / 13) (eight_from first), length-take (length second / 13) (eight_from second), eight-steps first, eight-steps second)

module _ (y z : ℤ) (first second out : List ℤ) where
  pub unsized : room_for_eight (length first) (length second) (length out) ≡ false → Counted (join_call y first z second out) out out (neg_ℤ (pos 255))
  unfolding join_call
  unsized e = rw e (record { status = refl; out = refl })

  module _ (sized : room_for_eight (length first) (length second) (length out) ≡ true) where
    pub refused-call : {n : ℕ} → Err n ≡ join_of (chain_from y first) (chain_from z second) → {r : ℤ} → r ≡ neg_ℤ (pos n) → Counted (join_call y first z second out) out out r
    unfolding join_call
    refused-call is e = rw (sized, ← is) (record { status = e; out = refl })

    pub given-call : {c : Chain} → Ok c ≡ join_of (chain_from y first) (chain_from z second) → {after : List ℤ} {r : ℤ} → after ≡ sets (sets out 0 first) (length first) second → r ≡ pos (length first + length second) → Counted (join_call y first z second out) out after r
    unfolding join_call
    given-call is f e =
        let w = whole (length first) (length second) (length out) sized in
        let k = few y z first second w.0 w.1 is in
        rw (sized, ← is)
        (record { status = e ∙ ap pos (sym (length-append first second)); out = f ∙ one-after-another out first second (omega (arith, w.2)) })
