-- The three ways in which a call ends, for arrays of any numbers. Assumes nothing.
use mathlib.Core.Path.{◌≡◌, refl, sym, ◌∙◌, ap, ap₂}
use mathlib.Core.List.{List, [], ◌∷◌, ◌++◌, map, append-nil}
use Prim.Native.Nat.{ℕ, ◌+◌, ◌≤◌, ◌<◌}
use native.Mathlib.Omega.{arith}
use lib.Dec.{T, ltb, ltb→lt}
use lib.IntN.{ℤ, pos}
use lib.ListN.{length, drop_of_length-le}
use lib.Seq.{sets, sets-eq, lt-length-sets}
use lib.Signed.{mag}
use mir.Syntax.{w64}
use mir.Val.{to_z, of_z}
use Rattle.rounding.proofs.Machine.{told}
use Rattle.capi.specs.Outcome.{CallOutcome, wrong_length, refused, gives, Returns}

-- a place of an array of n elements is one after stores from element i on
pub place : {A : Type 0} (k n : ℕ) (l : List A) (i : ℕ) (vs : List A) → length l ≡ n → T (ltb k n) → k < length (sets l i vs)
place k n l i vs e t = lt-length-sets l i vs (omega (arith, ltb→lt k n t))

-- all elements of an array are stored, from the first on
filled : {A : Type 0} (l vs : List A) → length l ≡ length vs → sets l 0 vs ≡ vs
filled {A = A} l vs e =
    let short : length l ≤ 0 + length vs = omega arith in
    sets-eq vs l 0 (omega arith) ∙ ap (λ (t : List A). vs ++ t) (drop_of_length-le l short) ∙ append-nil vs

module _ {A : Type 0} {o : CallOutcome A} {before : List A} where
  -- what a function that it hands on to answers
  pub by : {p : CallOutcome A} {after : List A} {r s : ℤ} → Returns p before after r → o ≡ p → s ≡ r → Returns o before after s
  by a e f = rw (e, f) a

  pub wrong : o ≡ wrong_length → Returns o before before (pos 255)
  wrong e = rw e (record { status = refl; out = refl })

  -- a refusal writes nothing
  pub declined : {n : ℕ} {r : ℤ} → o ≡ refused n → r ≡ pos n → Returns o before before r
  declined e f = rw e (record { status = f; out = refl })

  -- numbers are given, and stored one after the other
  pub given : {vs : List A} → o ≡ gives vs → length before ≡ length vs → Returns o before (sets before 0 vs) (pos 0)
  given {vs} e f = rw e (record { status = refl; out = filled before vs f })

  -- and so where a function is handed them
  pub handed : {vs after : List A} {r s : ℤ} → Returns (gives vs) before after r → o ≡ gives vs → s ≡ r → Returns o before after s
  handed a e f = by a e f

-- ---- whole numbers: an array holds what the machine stores of each
abbrev pub stored : ℤ → ℤ
stored z = to_z w64 (of_z w64 z)

abbrev pub Fit : List ℤ → Type 0
Fit [] = Unit {0}
Fit (z ∷ zs) = (mag z < 9223372036854775808) × Fit zs

all-stored : (zs : List ℤ) → Fit zs → zs ≡ map stored zs
all-stored [] f = refl
all-stored (z ∷ zs) f = ap₂ ◌∷◌ (sym (told f.0)) (all-stored zs f.1)

pub handed-whole : {o : CallOutcome ℤ} {before vs after : List ℤ} {r s : ℤ} → Returns (gives (map stored vs)) before after r → o ≡ gives vs → Fit vs → s ≡ r → Returns o before after s
handed-whole a e f t = by a (e ∙ ap gives (all-stored _ f)) t

pub numbers : {o : CallOutcome ℤ} {before vs : List ℤ} → o ≡ gives vs → Fit vs → length before ≡ length vs → Returns o before (sets before 0 (map stored vs)) (pos 0)
numbers {vs = vs} e f l = given (e ∙ ap gives (all-stored vs f)) (l ∙ ap length (all-stored vs f))
