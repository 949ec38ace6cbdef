-- The second pass, from the last place to the first: the rows at the places done have their verdicts.
use mathlib.Core.Path.{◌≡◌, refl, ap, ap₂, subst, ◌∙◌}
use mathlib.Core.List.{List}
use Prim.Native.Nat.{ℕ, ◌+◌, ◌-◌, ◌≤◌, ◌<◌}
use native.Mathlib.Omega.{arith}
use native.Mathlib.Decide.{ℕ_discrete}
use lib.Dec.{eqb}
use lib.ListN.{length, get_or, set, length-set}
use lib.Seq.{get_or-set_same, get_or-set_other}
use Rattle.latest.specs.Rank.{rank_of, Sorted}
use Rattle.latest.specs.declared.rows.Rows.{Rows}
use Rattle.latest.specs.Rows.{size, key, group, rank, text, listed}
use Rattle.latest.specs.Counts.{Order, Places, order}
use Rattle.latest.specs.Pile.{standing, verdict}
use Rattle.latest.specs.Columns.{verdicts_of}
use Rattle.latest.specs.Promises.{no_row}
use Rattle.latest.specs.Marks.{mark_of, stand, settle}
use Rattle.latest.proofs.Runs.{stood, settled}
use Rattle.latest.proofs.Columns.{words, facts, all-verdicts}

pub record Judging (r : Rows) (o v : List ℕ) (k st : ℕ) : Type 0 where
  pub k-in : k ≤ length o
  pub size : length v ≡ size r
  pub next : k < length o → st ≡ standing (listed r) (get_or (listed r) (get_or o k 0) no_row)
  pub done : (j : ℕ) → k ≤ j → j < length o → get_or v (get_or o j 0) 0 ≡ verdict (listed r) (get_or o j 0) (get_or (listed r) (get_or o j 0) no_row)

pub judging-none : (r : Rows) (o v : List ℕ) (st : ℕ) → length v ≡ size r → Judging r o v (length o) st
judging-none r o v st e = record { k-in = omega arith; size = e; next = λ z. absurd (omega arith); done = λ j a b. absurd (omega arith) }

module _ (r : Rows) (small : size r < 18446744073709551616) (o : List ℕ) (d : Order (rank r) o (size r)) where
  more : (v : List ℕ) (p st st' y mark : ℕ) → Judging r o v (p + 1) st
      → mark ≡ mark_of (group r) (text r) o p
      → st' ≡ stand (eqb (p + 1) (length o)) (eqb (key r (get_or o p 0)) (key r (get_or o (p + 1) 0))) (eqb (group r (get_or o p 0)) (group r (get_or o (p + 1) 0))) st mark
      → y ≡ settle st' mark
      → Judging r o (set v (get_or o p 0) y) p st'
  more v p st st' y mark g em e ex =
      let lo : length o ≡ size r = d.size in
      let pn : p < size r = omega (arith, g.k-in) in
      let f = facts r.pile.now r.high.now r.low.now r.issue.now r.begin.now r.lows r.issues r.begins (words r.low.now r.low_words) (words r.issue.now r.issue_words) small o d in
      let now : st' ≡ standing (listed r) (get_or (listed r) (get_or o p 0) no_row) =
      e
      ∙ ap₂ (λ (n m : ℕ). stand (eqb (p + 1) n) (eqb (key r (get_or o p 0)) (key r (get_or o (p + 1) 0))) (eqb (group r (get_or o p 0)) (group r (get_or o (p + 1) 0))) st m) lo em
      ∙ stood (listed r) (size r) (key r) (group r) (text r) o f p pn st (λ z. g.next (omega arith)) in
      let told : y ≡ verdict (listed r) (get_or o p 0) (get_or (listed r) (get_or o p 0) no_row) =
      ex ∙ ap₂ settle now em ∙ settled (listed r) (size r) (key r) (group r) (text r) o f p pn in
      let inside : get_or o p 0 < length v = omega (arith, g.size, d.below p (omega arith)) in
      record {
        k-in = omega arith;
        size = length-set v (get_or o p 0) y ∙ g.size;
        next = λ z. now;
        done = λ j a b. place v p y j (ℕ_discrete j p) inside told (λ z. g.done j (omega arith) b) a b;
      }
    where
      place : (v : List ℕ) (p y j : ℕ) → Dec (j ≡ p) → get_or o p 0 < length v → y ≡ verdict (listed r) (get_or o p 0) (get_or (listed r) (get_or o p 0) no_row)
          → (p < j → get_or v (get_or o j 0) 0 ≡ verdict (listed r) (get_or o j 0) (get_or (listed r) (get_or o j 0) no_row)) → p ≤ j → j < length o
          → get_or (set v (get_or o p 0) y) (get_or o j 0) 0 ≡ verdict (listed r) (get_or o j 0) (get_or (listed r) (get_or o j 0) no_row)
      place v p y j (yes e) inside told old a b = rw e (get_or-set_same v (get_or o p 0) y 0 inside ∙ told)
      place v p y j (no ne) inside told old a b =
          let pj : p < j = omega arith in
          let lt : rank r (get_or o p 0) < rank r (get_or o j 0) = d.strict p j pj (omega (arith, d.size)) in
          get_or-set_other v (get_or o p 0) (get_or o j 0) y 0 (λ z. omega (arith, ap (λ (i : ℕ). rank r i) z)) ∙ old pj

  pub judging-more : (v : List ℕ) (k st st' y mark : ℕ) → 0 < k → Judging r o v k st
      → mark ≡ mark_of (group r) (text r) o (k - 1)
      → st' ≡ stand (eqb (k - 1 + 1) (length o)) (eqb (key r (get_or o (k - 1) 0)) (key r (get_or o (k - 1 + 1) 0))) (eqb (group r (get_or o (k - 1) 0)) (group r (get_or o (k - 1 + 1) 0))) st mark
      → y ≡ settle st' mark
      → Judging r o (set v (get_or o (k - 1) 0) y) (k - 1) st'
  judging-more v k st st' y mark pos g em e ex =
      let back : k ≡ k - 1 + 1 = omega arith in
      more v (k - 1) st st' y mark (subst (λ (z : ℕ). Judging r o v z st) back g) em e ex

  pub judged : (v : List ℕ) (k st : ℕ) → k ≡ 0 → Judging r o v k st → v ≡ verdicts_of (listed r)
  judged v k st z g = all-verdicts r.pile.now r.high.now r.low.now r.issue.now r.begin.now r.lows r.issues r.begins (words r.low.now r.low_words) (words r.issue.now r.issue_words) small v g.size
      (λ i hi. let q = d.onto i hi in rw q.2 at (g.done q.0 (omega arith) (omega (arith, q.1, d.size))))

pub ordered : (h l s a o : List ℕ) (m : ℕ) → length h < 18446744073709551616 → m ≡ length h → length a ≡ m → length o ≡ length a → Places a m → Sorted (rank_of h l s) a o (length a) → Order (rank_of h l s) o (length h)
ordered h l s a o m small em la lo places sorted =
    subst (λ (n : ℕ). Order (rank_of h l s) o n) (la ∙ em) (order h l s a o (length a) (omega arith) refl lo (λ p pn. places p (omega arith)) sorted)
