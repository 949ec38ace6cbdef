-- What two passes over the places in order compute is what `latest_of` says.
use mathlib.Core.Path.{◌≡◌, refl, ap, sym, ◌∙◌}
use mathlib.Core.Logic.{◌⊎◌, inl, inr, ⊎_elim}
use mathlib.Core.Bool.{Bool, true, false, cond}
use mathlib.Core.List.{List}
use Prim.Native.Nat.{ℕ, zero, suc, ◌+◌, ◌≤◌, ◌<◌}
use native.Mathlib.Omega.{arith}
use native.Mathlib.Decide.{dec_lt, ℕ_discrete}
use lib.Dec.{eqb}
use lib.ListN.{length, get_or, take}
use lib.Seq.{length-take-le, get_or-take}
use borrow.Author.Tests.{eqb-true, eqb-false, eq-eqb, ne_eqb}
use Rattle.line.specs.Later.{same_bytes}
use Rattle.latest.specs.Pile.{Row, any, higher, differs, equal, standing, verdict}
use Rattle.latest.specs.Marks.{next_mark, mark_of, fresh, stand, settle}
use Rattle.latest.proofs.Bytes.{same_true, same_false, same?}
use Rattle.latest.specs.Promises.{no_row}
use Rattle.latest.proofs.Any.{any-in, any-find, any_none, any-not}

-- rows as numbers: K the id, G the id and issue, X the text; and o their places in order
pub record Facts (rows : List Row) (n : ℕ) (K G : ℕ → ℕ) (X : ℕ → List ℕ) (o : List ℕ) : Type 0 where
  pub size : length rows ≡ n
  pub below : (p : ℕ) → p < n → get_or o p 0 < n
  pub onto : (i : ℕ) → i < n → (p : ℕ) × (p < n) × (get_or o p 0 ≡ i)
  pub rising : (p q : ℕ) → p < q → q < n → G (get_or o p 0) ≤ G (get_or o q 0)
  pub placed : (p q : ℕ) → p < q → q < n → G (get_or o p 0) ≡ G (get_or o q 0) → get_or o p 0 < get_or o q 0
  pub key : (i j : ℕ) → i < n → j < n → G i ≤ G j → K i ≤ K j
  pub higher-to : (i j : ℕ) → i < n → j < n → higher (get_or rows i no_row) (get_or rows j no_row) ≡ true → (K i ≡ K j) × (G i < G j)
  pub higher-from : (i j : ℕ) → i < n → j < n → K i ≡ K j → G i < G j → higher (get_or rows i no_row) (get_or rows j no_row) ≡ true
  pub differs-to : (i j : ℕ) → i < n → j < n → differs (get_or rows i no_row) (get_or rows j no_row) ≡ true → (G i ≡ G j) × (X i ≡ X j → ⊥)
  pub differs-from : (i j : ℕ) → i < n → j < n → G i ≡ G j → (X i ≡ X j → ⊥) → differs (get_or rows i no_row) (get_or rows j no_row) ≡ true
  pub equal-to : (i j : ℕ) → i < n → j < n → equal (get_or rows i no_row) (get_or rows j no_row) ≡ true → (G i ≡ G j) × (X i ≡ X j)
  pub equal-from : (i j : ℕ) → i < n → j < n → G i ≡ G j → X i ≡ X j → equal (get_or rows i no_row) (get_or rows j no_row) ≡ true

abbrev Top : ℕ → (ℕ → ℕ) → (ℕ → ℕ) → ℕ → Type 0
Top n K G i = (j : ℕ) → j < n → K i ≡ K j → G j ≤ G i

abbrev Calm : ℕ → (ℕ → ℕ) → (ℕ → List ℕ) → ℕ → Type 0
Calm n G X i = (j : ℕ) → j < n → G i ≡ G j → X i ≡ X j

data View (n : ℕ) (K G : ℕ → ℕ) (X : ℕ → List ℕ) (i : ℕ) (s : ℕ) : Type 0 where
  beaten : (j : ℕ) → j < n → K i ≡ K j → G i < G j → s ≡ 0 → View n K G X i s
  torn : (j : ℕ) → j < n → Top n K G i → G i ≡ G j → (X i ≡ X j → ⊥) → s ≡ 17 → View n K G X i s
  alone : Top n K G i → Calm n G X i → s ≡ 1 → View n K G X i s

module _ (rows : List Row) (n : ℕ) (K G : ℕ → ℕ) (X : ℕ → List ℕ) (o : List ℕ) (F : Facts rows n K G X o) where
  viewed : (i : ℕ) → i < n → (a b : Bool) → any (higher (get_or rows i no_row)) rows ≡ a → any (differs (get_or rows i no_row)) rows ≡ b → View n K G X i (standing rows (get_or rows i no_row))
  unfolding standing
  viewed i h true b ea eb =
      let w = any-find (higher (get_or rows i no_row)) rows ea in
      let jn : w.0 < n = omega (arith, w.1, F.size) in
      let f = F.higher-to i w.0 h jn w.2 in
      beaten w.0 jn f.0 f.1 (rw ea)
  viewed i h false true ea eb =
      let w = any-find (differs (get_or rows i no_row)) rows eb in
      let jn : w.0 < n = omega (arith, w.1, F.size) in
      let f = F.differs-to i w.0 h jn w.2 in
      torn w.0 jn (λ j jn e. ⊎_elim (λ (l : G j ≤ G i). l) (λ (l : G i < G j). absurd (any_none (higher (get_or rows i no_row)) rows ea j (omega (arith, F.size)) (F.higher-from i j h jn e l))) (order (G j) (G i))) f.0 f.1 (rw (ea, eb))
    where
      order : (x y : ℕ) → (x ≤ y) ⊎ (y < x)
      order x y = go (dec_lt y x)
        where
          go : Dec (y < x) → (x ≤ y) ⊎ (y < x)
          go (yes l) = inr l
          go (no l) = inl (omega arith)
  viewed i h false false ea eb =
      alone (λ j jn e. ⊎_elim (λ (l : G j ≤ G i). l) (λ (l : G i < G j). absurd (any_none (higher (get_or rows i no_row)) rows ea j (omega (arith, F.size)) (F.higher-from i j h jn e l))) (order (G j) (G i)))
      (λ j jn e. decide j jn e (same? (X i) (X j))) (rw (ea, eb))
    where
      order : (x y : ℕ) → (x ≤ y) ⊎ (y < x)
      order x y = go (dec_lt y x)
        where
          go : Dec (y < x) → (x ≤ y) ⊎ (y < x)
          go (yes l) = inr l
          go (no l) = inl (omega arith)

      decide : (j : ℕ) → j < n → G i ≡ G j → Dec (X i ≡ X j) → X i ≡ X j
      decide j jn e (yes x) = x
      decide j jn e (no x) = absurd (any_none (differs (get_or rows i no_row)) rows eb j (omega (arith, F.size)) (F.differs-from i j h jn e x))

  view : (i : ℕ) → i < n → View n K G X i (standing rows (get_or rows i no_row))
  view i h = viewed i h (any (higher (get_or rows i no_row)) rows) (any (differs (get_or rows i no_row)) rows) refl refl

  S-0 : (i j s : ℕ) → View n K G X i s → j < n → K i ≡ K j → G i < G j → s ≡ 0
  S-0 i j s (beaten q a b c e) jn k g = e
  S-0 i j s (torn q a top c d e) jn k g = absurd (omega (arith, top j jn k))
  S-0 i j s (alone top c e) jn k g = absurd (omega (arith, top j jn k))

  S-17 : (i j s : ℕ) → View n K G X i s → Top n K G i → j < n → G i ≡ G j → (X i ≡ X j → ⊥) → s ≡ 17
  S-17 i j s (beaten q a b c e) top jn g x = absurd (omega (arith, top q a b))
  S-17 i j s (torn q a t c d e) top jn g x = e
  S-17 i j s (alone t c e) top jn g x = absurd (x (c j jn g))

  S-1 : (i s : ℕ) → View n K G X i s → Top n K G i → Calm n G X i → s ≡ 1
  S-1 i s (beaten q a b c e) top calm = absurd (omega (arith, top q a b))
  S-1 i s (torn q a t c d e) top calm = absurd (d (calm q a c))
  S-1 i s (alone t c e) top calm = e

  -- two that differ, of the group of i: whichever i is, one differs from it
  torn-by : (i a b s : ℕ) → View n K G X i s → Top n K G i → a < n → b < n → G i ≡ G a → G i ≡ G b → (X a ≡ X b → ⊥) → s ≡ 17
  torn-by i a b s v top an bn ga gb ne = go (same? (X i) (X a))
    where
      go : Dec (X i ≡ X a) → s ≡ 17
      go (no x) = S-17 i a s v top an ga x
      go (yes x) = S-17 i b s v top bn gb (λ y. ne (sym x ∙ y))

  same_key : (i j : ℕ) → i < n → j < n → G i ≡ G j → K i ≡ K j
  same_key i j hi hj g = omega (arith, F.key i j hi hj (omega arith), F.key j i hj hi (omega arith))

  -- rows of one group stand alike
  S-same : (i j s t : ℕ) → i < n → j < n → G i ≡ G j → View n K G X i s → View n K G X j t → s ≡ t
  S-same i j s t hi hj g (beaten q a b c e) v = e ∙ sym (S-0 j q t v a (sym (same_key i j hi hj g) ∙ b) (omega arith))
  S-same i j s t hi hj g (torn q a top c d e) v =
      e ∙ sym (torn-by j i q t v (λ y yn k. omega (arith, top y yn (same_key i j hi hj g ∙ k))) hi a (sym g) (sym g ∙ c) d)
  S-same i j s t hi hj g (alone top calm e) v =
      e ∙ sym (S-1 j t v (λ y yn k. omega (arith, top y yn (same_key i j hi hj g ∙ k))) (λ y yn k. sym (calm j hj g) ∙ calm y yn (g ∙ k)))

  -- a mark of 17 tells of two that differ; another, that all up to there are alike
  data Told (k : ℕ) (mark : ℕ) : Type 0 where
    two : (a b : ℕ) → a < n → b < n → G (get_or o k 0) ≡ G a → G (get_or o k 0) ≡ G b → (X a ≡ X b → ⊥) → mark ≡ 17 → Told k mark
    still : ((p : ℕ) → p ≤ k → G (get_or o p 0) ≡ G (get_or o k 0) → X (get_or o p 0) ≡ X (get_or o k 0)) → (mark ≡ 17 → ⊥) → Told k mark

  rising_le : (p q : ℕ) → p ≤ q → q < n → G (get_or o p 0) ≤ G (get_or o q 0)
  rising_le p q h qn = go (ℕ_discrete p q)
    where
      go : Dec (p ≡ q) → G (get_or o p 0) ≤ G (get_or o q 0)
      go (yes e) = rw e (omega arith)
      go (no ne) = F.rising p q (omega arith) qn

  last_of : (k p : ℕ) → p ≤ suc k → (p ≤ k) ⊎ (p ≡ suc k)
  last_of k p h = go (ℕ_discrete p (suc k))
    where
      go : Dec (p ≡ suc k) → (p ≤ k) ⊎ (p ≡ suc k)
      go (yes e) = inr e
      go (no ne) = inl (omega arith)

  told-next : (k : ℕ) → suc k < n → (m : ℕ) → Told k m → (g x : Bool) → eqb (G (get_or o k 0)) (G (get_or o (suc k) 0)) ≡ g → same_bytes (X (get_or o k 0)) (X (get_or o (suc k) 0)) ≡ x → Told (suc k) (next_mark m g x)
  told-next k h m t false x eg ex =
      still (λ p pk e. ⊎_elim
      (λ (l : p ≤ k). absurd (eqb-false (G (get_or o k 0)) (G (get_or o (suc k) 0)) eg (omega (arith, rising_le p k l (omega arith), F.rising k (suc k) (omega arith) h))))
      (λ (l : p ≡ suc k). ap (λ (z : ℕ). X (get_or o z 0)) l) (last_of k p pk)) (λ z. omega arith)
  told-next k h m (two a b an bn ga gb ne e) true x eg ex =
      let g : G (get_or o k 0) ≡ G (get_or o (suc k) 0) = eqb-true (G (get_or o k 0)) (G (get_or o (suc k) 0)) eg in
      two a b an bn (sym g ∙ ga) (sym g ∙ gb) ne (rw (eq-eqb m 17 e))
  told-next k h m (still f ne) true true eg ex =
      let g : G (get_or o k 0) ≡ G (get_or o (suc k) 0) = eqb-true (G (get_or o k 0)) (G (get_or o (suc k) 0)) eg in
      let x : X (get_or o k 0) ≡ X (get_or o (suc k) 0) = same_true (X (get_or o k 0)) (X (get_or o (suc k) 0)) ex in
      still (λ p pk e. ⊎_elim
      (λ (l : p ≤ k). f p l (e ∙ sym g) ∙ x)
      (λ (l : p ≡ suc k). ap (λ (z : ℕ). X (get_or o z 0)) l) (last_of k p pk)) (rw (ne_eqb m 17 ne) (λ z. omega arith))
  told-next k h m (still f ne) true false eg ex =
      let g : G (get_or o k 0) ≡ G (get_or o (suc k) 0) = eqb-true (G (get_or o k 0)) (G (get_or o (suc k) 0)) eg in
      two (get_or o k 0) (get_or o (suc k) 0) (F.below k (omega arith)) (F.below (suc k) h) (sym g) refl (same_false (X (get_or o k 0)) (X (get_or o (suc k) 0)) ex) (rw (ne_eqb m 17 ne))

  told : (k : ℕ) → k < n → Told k (mark_of G X o k)
  unfolding mark_of
  told zero h = still (λ p pk e. ap (λ (z : ℕ). X (get_or o z 0)) (let z : p ≡ 0 = omega arith in z)) (λ z. omega arith)
  told (suc k) h = told-next k h (mark_of G X o k) (told k (omega arith)) (eqb (G (get_or o k 0)) (G (get_or o (suc k) 0))) (same_bytes (X (get_or o k 0)) (X (get_or o (suc k) 0))) refl refl

  where-is : (k q : ℕ) → (q ≤ k) ⊎ (k < q)
  where-is k q = go (dec_lt k q)
    where
      go : Dec (k < q) → (q ≤ k) ⊎ (k < q)
      go (yes l) = inr l
      go (no l) = inl (omega arith)

  -- at the last place of an id
  fresh-is : (k : ℕ) → k < n → ((q : ℕ) → k < q → q < n → K (get_or o k 0) ≡ K (get_or o q 0) → ⊥) → Told k (mark_of G X o k) → fresh (mark_of G X o k) ≡ standing rows (get_or rows (get_or o k 0) no_row)
  fresh-is k h none t = go t
    where
      i : ℕ
      i = get_or o k 0

      top : Top n K G (get_or o k 0)
      top j jn e =
          let r = F.onto j jn in
          ⊎_elim (λ (l : r.0 ≤ k). rw r.2 at (rising_le r.0 k l h))
          (λ (l : k < r.0). absurd (none r.0 l r.1 (e ∙ ap K (sym r.2)))) (where-is k r.0)

      go : Told k (mark_of G X o k) → fresh (mark_of G X o k) ≡ standing rows (get_or rows (get_or o k 0) no_row)
      go (two a b an bn ga gb ne e) = rw (eq-eqb (mark_of G X o k) 17 e) (sym (torn-by (get_or o k 0) a b (standing rows (get_or rows (get_or o k 0) no_row)) (view (get_or o k 0) (F.below k h)) top an bn ga gb ne))
      go (still f ne) = rw (ne_eqb (mark_of G X o k) 17 ne) (sym (S-1 (get_or o k 0) (standing rows (get_or rows (get_or o k 0) no_row)) (view (get_or o k 0) (F.below k h)) top calm))
        where
          calm : Calm n G X (get_or o k 0)
          calm j jn e =
              let r = F.onto j jn in
              ⊎_elim (λ (l : r.0 ≤ k). sym (rw r.2 at (f r.0 l (ap G r.2 ∙ sym e))))
              (λ (l : k < r.0). absurd (none r.0 l r.1 (same_key (get_or o k 0) (get_or o r.0 0) (F.below k h) (F.below r.0 r.1) (e ∙ ap G (sym r.2))))) (where-is k r.0)

  pub stood : (k : ℕ) → k < n → (st : ℕ) → (k + 1 < n → st ≡ standing rows (get_or rows (get_or o (k + 1) 0) no_row))
      → stand (eqb (k + 1) n) (eqb (K (get_or o k 0)) (K (get_or o (k + 1) 0))) (eqb (G (get_or o k 0)) (G (get_or o (k + 1) 0))) st (mark_of G X o k) ≡ standing rows (get_or rows (get_or o k 0) no_row)
  stood k h st next = go (eqb (k + 1) n) refl (eqb (K (get_or o k 0)) (K (get_or o (k + 1) 0))) refl (eqb (G (get_or o k 0)) (G (get_or o (k + 1) 0))) refl
    where
      more : eqb (k + 1) n ≡ false → k + 1 < n
      more e = let ne : k + 1 ≡ n → ⊥ = eqb-false (k + 1) n e in omega arith

      up : (q : ℕ) → k < q → q < n → G (get_or o (k + 1) 0) ≤ G (get_or o q 0)
      up q kq qn = rising_le (k + 1) q (omega arith) qn

      go : (a : Bool) → eqb (k + 1) n ≡ a → (b : Bool) → eqb (K (get_or o k 0)) (K (get_or o (k + 1) 0)) ≡ b → (c : Bool) → eqb (G (get_or o k 0)) (G (get_or o (k + 1) 0)) ≡ c
          → stand a b c st (mark_of G X o k) ≡ standing rows (get_or rows (get_or o k 0) no_row)
      go true ea b eb c ec = let e : k + 1 ≡ n = eqb-true (k + 1) n ea in fresh-is k h (λ q kq qn z. absurd (omega arith)) (told k h)
      go false ea b eb true ec =
          let kn : k + 1 < n = more ea in
          next kn ∙ sym (S-same (get_or o k 0) (get_or o (k + 1) 0) (standing rows (get_or rows (get_or o k 0) no_row)) (standing rows (get_or rows (get_or o (k + 1) 0) no_row)) (F.below k h) (F.below (k + 1) kn)
          (eqb-true (G (get_or o k 0)) (G (get_or o (k + 1) 0)) ec) (view (get_or o k 0) (F.below k h)) (view (get_or o (k + 1) 0) (F.below (k + 1) kn)))
      go false ea true eb false ec =
          let kn : k + 1 < n = more ea in
          let ne : G (get_or o k 0) ≡ G (get_or o (k + 1) 0) → ⊥ = eqb-false (G (get_or o k 0)) (G (get_or o (k + 1) 0)) ec in
          let le : G (get_or o k 0) ≤ G (get_or o (k + 1) 0) = F.rising k (k + 1) (omega arith) kn in
          sym (S-0 (get_or o k 0) (get_or o (k + 1) 0) (standing rows (get_or rows (get_or o k 0) no_row)) (view (get_or o k 0) (F.below k h)) (F.below (k + 1) kn) (eqb-true (K (get_or o k 0)) (K (get_or o (k + 1) 0)) eb) (omega arith))
      go false ea false eb false ec =
          let kn : k + 1 < n = more ea in
          fresh-is k h (λ q kq qn z. eqb-false (K (get_or o k 0)) (K (get_or o (k + 1) 0)) eb
          (omega (arith, F.key (get_or o k 0) (get_or o (k + 1) 0) (F.below k h) (F.below (k + 1) kn) (F.rising k (k + 1) (omega arith) kn), F.key (get_or o (k + 1) 0) (get_or o q 0) (F.below (k + 1) kn) (F.below q qn) (up q kq qn)))) (told k h)

  -- an earlier row of the group stands at an earlier place
  earlier : (k i : ℕ) → k < n → i < get_or o k 0 → G (get_or o k 0) ≡ G i → (p : ℕ) × (p < k) × (get_or o p 0 ≡ i)
  earlier k i h lt g =
      let r = F.onto i (omega (arith, F.below k h)) in
      (r.0, before r.0 r.1 r.2 (dec_lt r.0 k), r.2)
    where
      before : (q : ℕ) → q < n → get_or o q 0 ≡ i → Dec (q < k) → q < k
      before q qn e (yes l) = l
      before q qn e (no l) = ⊎_elim (λ (z : q ≤ k). let eq : q ≡ k = omega arith in absurd (omega (arith, ap (λ (y : ℕ). get_or o y 0) eq)))
          (λ (z : k < q). absurd (omega (arith, F.placed k q z qn (g ∙ ap G (sym e))))) (where-is k q)

  first-is : (k : ℕ) → k < n → Calm n G X (get_or o k 0) → mark_of G X o k ≡ cond (any (equal (get_or rows (get_or o k 0) no_row)) (take (get_or o k 0) rows)) 0 1
  unfolding mark_of
  first-is zero h calm = rw (any-not (equal (get_or rows (get_or o 0 0) no_row)) (take (get_or o 0 0) rows) none)
    where
      none : (i : ℕ) → i < length (take (get_or o 0 0) rows) → equal (get_or rows (get_or o 0 0) no_row) (get_or (take (get_or o 0 0) rows) i no_row) ≡ true → ⊥
      none i il e =
          let b = F.below 0 h in
          let lt : i < get_or o 0 0 = omega (arith, length-take-le (get_or o 0 0) rows (omega (arith, F.size))) in
          let f = F.equal-to (get_or o 0 0) i b (omega arith) (rw (get_or-take (get_or o 0 0) rows i no_row lt) at e) in
          let r = earlier 0 i h lt f.0 in omega (arith, r.1)
  first-is (suc k) h calm = go (eqb (G (get_or o k 0)) (G (get_or o (suc k) 0))) refl (same_bytes (X (get_or o k 0)) (X (get_or o (suc k) 0))) refl (told k (omega arith))
    where
      j : ℕ
      j = get_or o (suc k) 0

      goal : Bool → Bool → Type 0
      goal g x = next_mark (mark_of G X o k) g x ≡ cond (any (equal (get_or rows (get_or o (suc k) 0) no_row)) (take (get_or o (suc k) 0) rows)) 0 1

      jn : get_or o (suc k) 0 < n
      jn = F.below (suc k) h

      len : length (take (get_or o (suc k) 0) rows) ≡ get_or o (suc k) 0
      len = length-take-le (get_or o (suc k) 0) rows (omega (arith, jn, F.size))

      none : eqb (G (get_or o k 0)) (G (get_or o (suc k) 0)) ≡ false → (i : ℕ) → i < length (take (get_or o (suc k) 0) rows) → equal (get_or rows (get_or o (suc k) 0) no_row) (get_or (take (get_or o (suc k) 0) rows) i no_row) ≡ true → ⊥
      none eg i il e =
          let lt : i < get_or o (suc k) 0 = omega (arith, len) in
          let f = F.equal-to (get_or o (suc k) 0) i jn (omega (arith, jn)) (rw (get_or-take (get_or o (suc k) 0) rows i no_row lt) at e) in
          let r = earlier (suc k) i h lt f.0 in
          let ne : G (get_or o k 0) ≡ G (get_or o (suc k) 0) → ⊥ = eqb-false (G (get_or o k 0)) (G (get_or o (suc k) 0)) eg in
          let eg' : G (get_or o r.0 0) ≡ G i = ap G r.2 in
          omega (arith, f.0, r.1, rising_le r.0 k (omega (arith, r.1)) (omega arith), F.rising k (suc k) (omega arith) h)

      go : (g : Bool) → eqb (G (get_or o k 0)) (G (get_or o (suc k) 0)) ≡ g → (x : Bool) → same_bytes (X (get_or o k 0)) (X (get_or o (suc k) 0)) ≡ x → Told k (mark_of G X o k)
          → next_mark (mark_of G X o k) g x ≡ cond (any (equal (get_or rows (get_or o (suc k) 0) no_row)) (take (get_or o (suc k) 0) rows)) 0 1
      go false eg x ex t = rw (any-not (equal (get_or rows (get_or o (suc k) 0) no_row)) (take (get_or o (suc k) 0) rows) (none eg))
      go true eg x ex (two a b an bn ga gb ne e) =
          let g : G (get_or o k 0) ≡ G (get_or o (suc k) 0) = eqb-true (G (get_or o k 0)) (G (get_or o (suc k) 0)) eg in
          absurd (ne (sym (calm a an (sym g ∙ ga)) ∙ calm b bn (sym g ∙ gb)))
      go true eg false ex (still f ne) =
          let g : G (get_or o k 0) ≡ G (get_or o (suc k) 0) = eqb-true (G (get_or o k 0)) (G (get_or o (suc k) 0)) eg in
          absurd (same_false (X (get_or o k 0)) (X (get_or o (suc k) 0)) ex (sym (calm (get_or o k 0) (F.below k (omega arith)) (sym g))))
      go true eg true ex (still f ne) =
          let g : G (get_or o k 0) ≡ G (get_or o (suc k) 0) = eqb-true (G (get_or o k 0)) (G (get_or o (suc k) 0)) eg in
          let x : X (get_or o k 0) ≡ X (get_or o (suc k) 0) = same_true (X (get_or o k 0)) (X (get_or o (suc k) 0)) ex in
          let lt : get_or o k 0 < get_or o (suc k) 0 = F.placed k (suc k) (omega arith) h g in
          rw (
            ne_eqb (mark_of G X o k) 17 ne,
            any-in (equal (get_or rows (get_or o (suc k) 0) no_row)) (take (get_or o (suc k) 0) rows) (get_or o k 0) (omega (arith, len))
                (rw (get_or-take (get_or o (suc k) 0) rows (get_or o k 0) no_row lt) (F.equal-from (get_or o (suc k) 0) (get_or o k 0) jn (F.below k (omega arith)) (sym g) (sym x))),
          )

  pub settled : (k : ℕ) → k < n → settle (standing rows (get_or rows (get_or o k 0) no_row)) (mark_of G X o k) ≡ verdict rows (get_or o k 0) (get_or rows (get_or o k 0) no_row)
  unfolding verdict
  settled k h = go (standing rows (get_or rows (get_or o k 0) no_row)) refl (view (get_or o k 0) (F.below k h))
    where
      go : (s : ℕ) → standing rows (get_or rows (get_or o k 0) no_row) ≡ s → View n K G X (get_or o k 0) s
          → settle s (mark_of G X o k) ≡ cond (eqb s 1) (cond (any (equal (get_or rows (get_or o k 0) no_row)) (take (get_or o k 0) rows)) 0 1) s
      go s es (beaten j a b c e) = rw e
      go s es (torn j a t c d e) = rw e
      go s es (alone t c e) = rw e (first-is k h c)
