-- The columns' rows as numbers, and their places in order.
use mathlib.Core.Path.{◌≡◌, refl, ap₂, sym, ◌∙◌}
use mathlib.Core.Bool.{Bool}
use mathlib.Core.List.{List, [], ◌∷◌}
use Prim.Native.Nat.{ℕ, zero, suc, ◌≤◌, ◌<◌}
use Rattle.std.proofs.Common.{suc-le-suc}
use native.Mathlib.Nat.{le_of_lt}
use native.Mathlib.Omega.{arith}
use lib.ListN.{length, get_or}
use lib.Seq.{ext_get_or}
use Rattle.latest.specs.Rank.{pack, pack-second, pack-le, pack-eq, pack-lt-second, key_of, group_of, rank_of, Below}
use Rattle.latest.specs.Counts.{Order}
use Rattle.latest.specs.Pile.{Row, higher, differs, equal, verdict}
use Rattle.latest.specs.Columns.{rows_of, verdicts_of, text_in}
use Rattle.latest.specs.Promises.{no_row, Alike}
use Rattle.latest.proofs.Any.{row-at, length-rows, higher-true, higher-made, differs_true, differs-made, equal-true, equal-made, latest-at, length-latest}
use Rattle.latest.proofs.Runs.{Facts}

abbrev pub Words : List ℕ → Type 0
Words a = (i : ℕ) → get_or a i 0 < 18446744073709551616

pub words : (a : List ℕ) → Below a 18446744073709551616 → Words a
words [] h i = omega arith
words (x ∷ xs) h zero = h 0 (omega arith)
words (x ∷ xs) h (suc i) = words xs (λ p k. h (suc p) (suc-le-suc k)) i

module _ (x h l s t : List ℕ) (el : length l ≡ length h) (es : length s ≡ length h) (et : length t ≡ length h) (wl : Words l) (ws : Words s) (small : length h < 18446744073709551616) where
  row : ℕ → Row
  row i = record { high = get_or h i 0; low = get_or l i 0; issue = get_or s i 0; text = text_in x t i }

  group-lt : (i j : ℕ) → key_of h l i ≡ key_of h l j → get_or s i 0 < get_or s j 0 → group_of h l s i < group_of h l s j
  unfolding group_of
  group-lt i j k lt = rw (← k) (pack-second (key_of h l i) (get_or s i 0) (get_or s j 0) lt)

  group-lt-to : (i j : ℕ) → key_of h l i ≡ key_of h l j → group_of h l s i < group_of h l s j → get_or s i 0 < get_or s j 0
  unfolding group_of
  group-lt-to i j k lt = pack-lt-second (key_of h l i) (get_or s i 0) (get_or s j 0) (rw (sym k) at lt)

  group-eq : (i j : ℕ) → key_of h l i ≡ key_of h l j → get_or s i 0 ≡ get_or s j 0 → group_of h l s i ≡ group_of h l s j
  unfolding group_of
  group-eq i j k e = ap₂ pack k e

  group-eq-to : (i j : ℕ) → group_of h l s i ≡ group_of h l s j → (key_of h l i ≡ key_of h l j) × (get_or s i 0 ≡ get_or s j 0)
  unfolding group_of
  group-eq-to i j e = pack-eq (key_of h l i) (key_of h l j) (get_or s i 0) (get_or s j 0) (ws i) (ws j) e

  key-eq : (i j : ℕ) → Alike (row i) (row j) → key_of h l i ≡ key_of h l j
  unfolding key_of row
  key-eq i j a = ap₂ pack a.high a.low

  key-eq-to : (i j : ℕ) → key_of h l i ≡ key_of h l j → Alike (row i) (row j)
  unfolding key_of row
  key-eq-to i j e = let r = pack-eq (get_or h i 0) (get_or h j 0) (get_or l i 0) (get_or l j 0) (wl i) (wl j) e in record { high = r.0; low = r.1 }

  rank-rising : (i j : ℕ) → j < length h → rank_of h l s i < rank_of h l s j → group_of h l s i ≤ group_of h l s j
  unfolding rank_of
  rank-rising i j jn lt = pack-le (group_of h l s i) (group_of h l s j) i j (omega arith) (le_of_lt lt)

  rank-placed : (i j : ℕ) → group_of h l s i ≡ group_of h l s j → rank_of h l s i < rank_of h l s j → i < j
  unfolding rank_of
  rank-placed i j e lt = pack-lt-second (group_of h l s i) i j (rw (sym e) at lt)

  group-key : (i j : ℕ) → group_of h l s i ≤ group_of h l s j → key_of h l i ≤ key_of h l j
  unfolding group_of
  group-key i j le = pack-le (key_of h l i) (key_of h l j) (get_or s i 0) (get_or s j 0) (ws j) le

  at : (i : ℕ) → i < length h → get_or (rows_of x h l s t) i no_row ≡ row i
  unfolding row
  at i hi = row-at x h l s t el es et i hi

  both : (test : Row → Row → Bool) (i j : ℕ) → i < length h → j < length h → test (get_or (rows_of x h l s t) i no_row) (get_or (rows_of x h l s t) j no_row) ≡ test (row i) (row j)
  both test i j hi hj = ap₂ test (at i hi) (at j hj)

  issue-is : (i : ℕ) → (row i).issue ≡ get_or s i 0
  unfolding row
  issue-is i = refl

  text-is : (i : ℕ) → (row i).text ≡ text_in x t i
  unfolding row
  text-is i = refl

  pub facts : (o : List ℕ) → Order (rank_of h l s) o (length h) → Facts (rows_of x h l s t) (length h) (key_of h l) (group_of h l s) (text_in x t) o
  facts o d = record {
    size = length-rows x h l s t el es et;
    below = λ p pn. d.below p (omega (arith, d.size));
    onto = d.onto;
    rising = λ p q pq qn. rank-rising (get_or o p 0) (get_or o q 0) (d.below q (omega (arith, d.size))) (d.strict p q pq qn);
    placed = λ p q pq qn e. rank-placed (get_or o p 0) (get_or o q 0) e (d.strict p q pq qn);
    key = λ i j hi hj le. group-key i j le;
    higher-to = λ i j hi hj e.
        let r = higher-true (row i) (row j) (sym (both higher i j hi hj) ∙ e) in
        let k = key-eq i j r.0 in (k, group-lt i j k (omega (arith, r.1, issue-is i, issue-is j)));
    higher-from = λ i j hi hj k lt. both higher i j hi hj ∙ higher-made (row i) (row j) (key-eq-to i j k) (omega (arith, group-lt-to i j k lt, issue-is i, issue-is j));
    differs-to = λ i j hi hj e.
        let r = differs_true (row i) (row j) (sym (both differs i j hi hj) ∙ e) in
        (group-eq i j (key-eq i j r.0) (sym (issue-is i) ∙ r.1 ∙ issue-is j), λ x. r.2 (text-is i ∙ x ∙ sym (text-is j)));
    differs-from = λ i j hi hj g x. let k = group-eq-to i j g in
        both differs i j hi hj ∙ differs-made (row i) (row j) (key-eq-to i j k.0) (issue-is i ∙ k.1 ∙ sym (issue-is j)) (λ z. x (sym (text-is i) ∙ z ∙ text-is j));
    equal-to = λ i j hi hj e.
        let r = equal-true (row i) (row j) (sym (both equal i j hi hj) ∙ e) in
        (group-eq i j (key-eq i j r.0) (sym (issue-is i) ∙ r.1 ∙ issue-is j), sym (text-is i) ∙ r.2 ∙ text-is j);
    equal-from = λ i j hi hj g x. let k = group-eq-to i j g in
        both equal i j hi hj ∙ equal-made (row i) (row j) (key-eq-to i j k.0) (issue-is i ∙ k.1 ∙ sym (issue-is j)) (text-is i ∙ x ∙ sym (text-is j));
  }

  -- a list with each row's verdict at its place is the list of verdicts
  pub all-verdicts : (v : List ℕ) → length v ≡ length h → ((i : ℕ) → i < length h → get_or v i 0 ≡ verdict (rows_of x h l s t) i (get_or (rows_of x h l s t) i no_row)) → v ≡ verdicts_of (rows_of x h l s t)
  all-verdicts v lv f =
      let lr : length (rows_of x h l s t) ≡ length h = length-rows x h l s t el es et in
      ext_get_or 0 v (verdicts_of (rows_of x h l s t)) (lv ∙ sym lr ∙ sym (length-latest (rows_of x h l s t)))
      (λ i hi. f i (omega arith) ∙ sym (latest-at (rows_of x h l s t) i (omega arith)))
