-- What the exit of a `?` answers: the refusal that the call ended with, which stands at the head of the order. Assumes nothing.
use mathlib.Core.Path.{◌≡◌, sym, ap, ◌∙◌}
use Prim.Native.Nat.{ℕ}
use native.Mathlib.Omega.{arith}
use Rattle.std.specs.Result.{result_or}
use Rattle.std.specs.Prelude.{Result, Ok, Err, IsErrAnd}
use Rattle.refusal.specs.Order.{unless}
use Rattle.refusal.specs.Refusals.{number, told, fault_number}
use Rattle.refusal.specs.declared.Refusal.{Refusal}
use Rattle.refusal.proofs.Refusals.{unless-number}

-- the call's refusal is the answer's
pub told-is : {T : Type 0} (r : Result T Refusal) (e : Refusal) → IsErrAnd r (λ (d : Refusal). d ≡ e) → told r ≡ Err (number e)
told-is (Ok x) e h = absurd h
told-is (Err d) e h = ap (λ (f : Refusal). Err (number f)) h

pub fault_is : (r : Result Unit Refusal) (e : Refusal) → IsErrAnd r (λ (d : Refusal). d ≡ e) → fault_number r ≡ number e
fault_is (Ok x) e h = absurd h
fault_is (Err d) e h = ap number h

-- of an order that begins with the examination
pub refused : {T : Type 0} (r : Result T Refusal) (e : Refusal) (n : ℕ) (a : Result T ℕ)
    → IsErrAnd r (λ (d : Refusal). d ≡ e) → number e ≡ n → told r ≡ unless n Err a
refused r e n a h k = told-is r e h ∙ sym (unless-number e n Err a k)

-- ---- a call whose refusal gives way to another, by `or`
pub record Instead {T : Type 0} (q : Result T ℕ) (d e : Refusal) : Type 0 where
  pub refusal : ℕ
  pub was : q ≡ Err refusal
  pub is : e ≡ d

pub instead-err : {T : Type 0} (r : Result T Refusal) (q : Result T ℕ) (d e : Refusal) → told r ≡ q → Err e ≡ result_or r (Err d) → Instead q d e
instead-err (Ok x) q d e t h = absurd (grind arith)
instead-err (Err f) q d e t h = record { refusal = number f; was = sym t; is = cc }

pub instead-ok : {T : Type 0} (r : Result T Refusal) (q : Result T ℕ) (d : Refusal) (x : T) → told r ≡ q → Ok x ≡ result_or r (Err d) → q ≡ Ok x
instead-ok (Ok y) q d x t h = cc
instead-ok (Err f) q d x t h = absurd (grind arith)
