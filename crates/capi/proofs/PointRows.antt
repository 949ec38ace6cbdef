-- Rows of answers: how long they are, one answer more, and how the call ends. Assumes nothing.
use mathlib.Core.Path.{◌≡◌, refl, sym, ◌∙◌, ap, ap₂}
use mathlib.Core.Bool.{Bool, true, false}
use mathlib.Core.List.{List, [], ◌++◌}
use Prim.Native.Nat.{ℕ, zero, suc, ◌+◌, ◌-◌, ◌*◌, ◌/◌, ◌≤◌, ◌<◌}
use native.Mathlib.Omega.{arith}
use borrow.Author.Tests.{ltb-false, lt-ltb, le-ltb}
use lib.Dec.{ltb}
use lib.IntN.{ℤ, pos}
use lib.ListN.{length, drop, length-append}
use lib.Seq.{sets, sets-eq, drop-drop}
use Rattle.refusal.specs.Numbers as refusal
use Rattle.refusal.specs.Order.{first, pick, unless}
use Rattle.refusal.proofs.Orders.{passed, stop, on, step-passed, unless-some, unless-none}
use Rattle.chain.specs.declared.Point.{Point}
use Rattle.chain.specs.declared.Chain.{Chain}
use Rattle.chain.specs.declared.ReadyChain.{ReadyChain}
use Rattle.std.specs.Prelude.{Option, Some, None, Ok, Err}
use Rattle.chain.specs.Convert.{Answer}
use Rattle.chain.specs.declared.Direction.{Direction}
use Rattle.chain.specs.Faults.{chain_tests}
use Rattle.chain.specs.PointRow.{convert_of, ready_chain_of, convert_ready}
use Rattle.chain.proofs.Readying.{ready-converts}
use Rattle.capi.specs.Outcome.{CallOutcome, refused, gives as writes, Returns}
use Rattle.chain.specs.Numbers.{chain_from}
use Rattle.capi.specs.Chains.{point_from, point_numbers}
use Rattle.capi.specs.PointRow.{answer_numbers, answers_of, direction_from, direction_range, whole_rows, lent_tests, row_call}
use Rattle.capi.proofs.Laws.{wrong, declined}
use Rattle.capi.proofs.Joinings.{sets-append}

pub answer-length : (a : Answer) → length (answer_numbers a) ≡ 8
unfolding point_numbers
answer-length (Ok p) = refl
answer-length (Err n) = refl

module _ (f : Point → Answer) where
  pub answers-length : (n : ℕ) (ns : List ℤ) → length (answers_of f n ns) ≡ n * 8
  unfolding answers_of
  answers-length zero ns = omega arith
  answers-length (suc n) ns = omega (arith, length-append (answer_numbers (f (point_from ns))) (answers_of f n (drop 7 ns)), answer-length (f (point_from ns)), answers-length n (drop 7 ns))

  pub no-answers : (ns : List ℤ) → [] ≡ answers_of f 0 ns
  unfolding answers_of
  no-answers ns = refl

  -- the next answer, and then the rest
  next : (n : ℕ) (ns : List ℤ) → answers_of f (suc n) ns ≡ answer_numbers (f (point_from ns)) ++ answers_of f n (drop 7 ns)
  unfolding answers_of
  next n ns = refl

  pub turn : (points out : List ℤ) (count i : ℕ) {a : Answer} → i < count → a ≡ f (point_from (drop (7 * i) points))
      → sets (sets out (8 * i) (answer_numbers a)) (8 * (i + 1)) (answers_of f (count - (i + 1)) (drop (7 * (i + 1)) points)) ≡ sets out (8 * i) (answers_of f (count - i) (drop (7 * i) points))
  turn points out count i {a} h e =
      let k : count - i ≡ suc (count - (i + 1)) = omega arith in
      let m : 7 * i + 7 ≡ 7 * (i + 1) = omega arith in
      let z : 8 * (i + 1) ≡ 8 * i + length (answer_numbers (f (point_from (drop (7 * i) points)))) = omega (arith, answer-length (f (point_from (drop (7 * i) points)))) in
      let t : drop (7 * (i + 1)) points ≡ drop 7 (drop (7 * i) points) = ap (λ (j : ℕ). drop j points) (sym m) ∙ sym (drop-drop 7 (7 * i) points) in
      rw (k, e, z, t, next (count - (i + 1)) (drop (7 * i) points))
      (sets-append out (answer_numbers (f (point_from (drop (7 * i) points)))) (answers_of f (count - (i + 1)) (drop 7 (drop (7 * i) points))) (8 * i))

  -- all of them, at the start of an array that has room
  pub all-answers : (points out : List ℤ) (n : ℕ) → n * 8 ≤ length out → sets out 0 (answers_of f n points) ≡ answers_of f n points ++ drop (n * 8) out
  all-answers points out n h =
      let l = answers-length n points in
      let z : 0 + length (answers_of f n points) ≡ n * 8 = omega (arith, l) in
      sets-eq (answers_of f n points) out 0 (omega (arith, l)) ∙ ap (λ (k : ℕ). answers_of f n points ++ drop k out) z

same-answers : (f g : Point → Answer) → ((p : Point) → f p ≡ g p) → (n : ℕ) (ns : List ℤ) → answers_of f n ns ≡ answers_of g n ns
unfolding answers_of
same-answers f g h zero ns = refl
same-answers f g h (suc n) ns = ap₂ ◌++◌ (ap answer_numbers (h (point_from ns))) (same-answers f g h n (drop 7 ns))

-- ---- a direction that may be none
pub none-is : (b : Bool) (x : Direction) → ◌≡◌ {A = Option Direction} None (pick b (Some x) None) → b ≡ false
none-is true x e = absurd (let z : ◌≡◌ {A = ℕ} 0 1 = cc in omega arith)
none-is false x e = refl

pub some-is : (b : Bool) (x y : Direction) → ◌≡◌ {A = Option Direction} (Some y) (pick b (Some x) None) → (b ≡ true) × (y ≡ x)
some-is true x y e = (refl, cc)
some-is false x y e = absurd (let z : ◌≡◌ {A = ℕ} 0 1 = cc in omega arith)

-- ---- how the call ends
module _ (y d : ℤ) (chain points out : List ℤ) where
  abbrev c : Chain
  c = chain_from y chain

  abbrev lent : ℕ
  lent = first (lent_tests d (length points / 7) (length out / 8))

  -- what is written where nothing is refused
  abbrev all : CallOutcome ℤ
  all = writes (answers_of (convert_of c (direction_from d)) (length points / 7) points ++ drop (length points / 7 * 8) out)

  -- fewer answers than points; and then a direction that is neither, or one
  pub too_few : length out / 8 < length points / 7 → lent ≡ refusal.row
  too_few h = rw (lt-ltb (length out / 8) (length points / 7) h)

  pub no-way : length points / 7 ≤ length out / 8 → direction_range d ≡ false → lent ≡ refusal.range
  no-way h e = rw (le-ltb (length out / 8) (length points / 7) h, e)

  pub a-way : length points / 7 ≤ length out / 8 → direction_range d ≡ true → lent ≡ 0
  a-way h e = rw (le-ltb (length out / 8) (length points / 7) h, e)

  pub unsized : whole_rows (length chain) (length points) (length out) ≡ false → Returns (row_call y chain d points out) out out (pos 255)
  unfolding row_call
  unsized e = wrong (rw e)

  module _ (sized : whole_rows (length chain) (length points) (length out) ≡ true) where
    pub refused-lent : (lent ≡ 0 → ⊥) → {r : ℤ} → r ≡ pos lent → Returns (row_call y chain d points out) out out r
    unfolding row_call
    refused-lent h e =
        declined (rw sized
        (ap (λ (n : ℕ). unless n refused all) (stop (lent_tests d (length points / 7) (length out / 8)) (chain_tests c) h) ∙ unless-some lent refused all h)) e

    module _ (good : lent ≡ 0) where
      chain-decides : first (lent_tests d (length points / 7) (length out / 8) ++ chain_tests c) ≡ first (chain_tests c)
      chain-decides = on (lent_tests d (length points / 7) (length out / 8)) (chain_tests c) (passed (lent_tests d (length points / 7) (length out / 8)) tt good)

      -- there is room for an answer of each point
      pub room : length points / 7 * 8 ≤ length out
      room = let e = step-passed (ltb (length out / 8) (length points / 7)) _ _ tt good in omega (arith, ltb-false (length out / 8) (length points / 7) e.0)

      pub refused-chain : {n : ℕ} → n ≡ first (chain_tests c) → (n ≡ 0 → ⊥) → {r : ℤ} → r ≡ pos n → Returns (row_call y chain d points out) out out r
      unfolding row_call
      refused-chain {n} f h e =
          declined (rw sized (ap (λ (n : ℕ). unless n refused all) chain-decides ∙ unless-some (first (chain_tests c)) refused all (λ z. h (f ∙ z)))) (e ∙ ap pos f)

      given : first (chain_tests c) ≡ 0 → row_call y chain d points out ≡ all
      unfolding row_call
      given e = rw sized (unless-none _ refused all (chain-decides ∙ e))

      pub answered : first (chain_tests c) ≡ 0 → {w : ReadyChain} {b : Direction} → w ≡ ready_chain_of c → b ≡ direction_from d → {after : List ℤ} → after ≡ sets out 0 (answers_of (convert_ready w b) (length points / 7) points)
          → Returns (row_call y chain d points out) out after (pos 0)
      answered e f g a =
          rw (given e) (record {
            status = refl;
            out =
                a
                ∙ ap₂ (λ (w : ReadyChain) (b : Direction). sets out 0 (answers_of (convert_ready w b) (length points / 7) points)) f g
                ∙ ap (sets out 0) (same-answers (convert_ready (ready_chain_of c) (direction_from d)) (convert_of c (direction_from d)) (ready-converts c (direction_from d)) (length points / 7) points)
                ∙ all-answers (convert_of c (direction_from d)) points out (length points / 7) room;
          })
