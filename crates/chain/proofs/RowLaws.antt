-- Rows: the list behind the answers after i turns, and what it is at the end.
use Prim.Native.Nat.{ℕ, zero, suc, ◌+◌, ◌*◌, ◌≤◌, ◌<◌, ◌^◌}
use native.Mathlib.Nat.{mul-le-mul_right}
use native.Mathlib.Numerals.{add-one}
use native.Mathlib.Omega.{arith}
use mathlib.Core.Path.{◌≡◌, refl, sym, ◌∙◌, ap}
use mathlib.Core.List.{List, [], ◌∷◌, ◌++◌, map}
use borrow.Author.Tests.{lt-ltb, le-ltb}
use lib.ListN.{length, get_or, take, drop, set}
use lib.Seq.{take-length}
use Rattle.refusal.specs.Numbers as refusal
use Rattle.refusal.specs.Order.{first}
use Rattle.refusal.specs.Refusals.{number}
use Rattle.refusal.specs.declared.Refusal.{Refusal}
use Rattle.refusal.proofs.Refusals.{not-none}
use Rattle.chain.specs.declared.Point.{Point}
use Rattle.chain.specs.declared.Chain.{Chain}
use Rattle.chain.specs.Convert.{Answer}
use Rattle.chain.specs.declared.Direction.{Direction}
use Rattle.chain.specs.Faults.{chain_tests}
use Rattle.chain.specs.PointRow.{convert_of, row_fault, row_fault_of, unless_fault, row_answers}

module _ {A B : Type 0} (f : A → B) where
  -- the first i are done, the others as they were
  abbrev pub cur : List A → List B → ℕ → List B
  cur xs ys i = map f (take i xs) ++ drop i ys

  pub cur-len : (i : ℕ) (xs : List A) (ys : List B) → i ≤ length xs → length xs ≤ length ys → length (cur xs ys i) ≡ length ys
  cur-len zero xs ys h k = refl
  cur-len (suc i) [] ys h k = absurd (omega arith)
  cur-len (suc i) (x ∷ xs) [] h k = absurd (omega arith)
  cur-len (suc i) (x ∷ xs) (y ∷ ys) h k = ap suc (cur-len i xs ys (omega arith) (omega arith))

  pub cur-set : (i : ℕ) (xs : List A) (ys : List B) (d : A) → i < length xs → length xs ≤ length ys → set (cur xs ys i) i (f (get_or xs i d)) ≡ cur xs ys (suc i)
  cur-set i [] ys d h k = absurd (omega arith)
  cur-set i (x ∷ xs) [] d h k = absurd (omega arith)
  cur-set zero (x ∷ xs) (y ∷ ys) d h k = refl
  cur-set (suc i) (x ∷ xs) (y ∷ ys) d h k = ap (λ (l : List B). f x ∷ l) (cur-set i xs ys d (omega arith) (omega arith))

  pub cur-all : (xs : List A) (ys : List B) → cur xs ys (length xs) ≡ map f xs ++ drop (length xs) ys
  cur-all xs ys = ap (λ (l : List A). map f l ++ drop (length xs) ys) (take-length xs)

-- an element of a list that has one: the walk needs some value where an index can't fail
pub some : {A : Type 0} (xs : List A) → 0 < length xs → A
some [] h = absurd (omega arith)
some (x ∷ xs) h = x

-- the offset of an element of a row that has room
pub scales : (i n s : ℕ) → i < n → n * s < 2 ^ 63 → i * s < 2 ^ 64
scales i n s h k = let le : i * s ≤ n * s = mul-le-mul_right s (omega arith) in omega (arith, le)

-- ---- the row's definition
module _ (c : Chain) (d : Direction) (xs : List Point) (ys : List Answer) where
  -- where there is a fault nothing is written
  pub row-refused : (row_fault_of c xs ys ≡ 0 → ⊥) → ys ≡ row_answers c d xs ys
  unfolding row_answers
  row-refused h = kept (row_fault_of c xs ys) _ h
    where
      kept : (n : ℕ) (new : List Answer) → (n ≡ 0 → ⊥) → ys ≡ unless_fault n ys new
      kept zero new h = absurd (h refl)
      kept (suc n) new h = refl

  pub row_done : row_fault_of c xs ys ≡ 0 → cur (convert_of c d) xs ys (length xs) ≡ row_answers c d xs ys
  unfolding row_answers
  row_done h = rw h (cur-all (convert_of c d) xs ys)

  -- too few answers, or enough: then the chain decides
  pub row-short : length ys < length xs → ◌≡◌ {A = ℕ} refusal.row (row_fault_of c xs ys)
  unfolding row_fault
  row-short h = rw (lt-ltb (length ys) (length xs) h)

  pub row-fits : length xs ≤ length ys → first (chain_tests c) ≡ row_fault_of c xs ys
  unfolding row_fault
  row-fits h = rw (le-ltb (length ys) (length xs) h)

  -- so with too few answers, and of a bad chain where there are enough, what the row is refused for is said and nothing is written
  pub row-too_few : length ys < length xs → ◌≡◌ {A = ℕ} refusal.row (row_fault_of c xs ys) × (ys ≡ row_answers c d xs ys)
  row-too_few h =
      let e = row-short h in
      (e, row-refused (λ z. let k : ◌≡◌ {A = ℕ} refusal.row 0 = e ∙ z in absurd (omega arith)))

  module _ (room : length xs ≤ length ys) where
    pub row-of_bad : (e : Refusal) → number e ≡ first (chain_tests c) → (number e ≡ row_fault_of c xs ys) × (ys ≡ row_answers c d xs ys)
    row-of_bad e f = (f ∙ row-fits room, row-refused (λ z. not-none e (f ∙ row-fits room ∙ z)))

    -- a turn: a point's answer is put at its own place
    pub row-on : (i : ℕ) (now : List Answer) (x : Point) (r : Answer) → now ≡ cur (convert_of c d) xs ys i → r ≡ convert_of c d (get_or xs i x) → i < length xs
        → {at : ℕ} → at ≡ i → set now at r ≡ cur (convert_of c d) xs ys (i + 1)
    row-on i now x r e f small put = rw (put, e, f) (cur-set (convert_of c d) i xs ys x small room ∙ ap (cur (convert_of c d) xs ys) (sym (add-one i)))

    -- where the loop ends, all are done
    pub row-all : (i : ℕ) (now : List Answer) → now ≡ cur (convert_of c d) xs ys i → i ≡ length xs → first (chain_tests c) ≡ 0
        → (0 ≡ row_fault_of c xs ys) × (now ≡ row_answers c d xs ys)
    row-all i now e f good = (sym good ∙ row-fits room, e ∙ ap (cur (convert_of c d) xs ys) f ∙ row_done (sym (row-fits room) ∙ good))
