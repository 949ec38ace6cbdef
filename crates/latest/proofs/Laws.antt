-- Laws of `verdicts_of`: a row that is handed out is of the highest issue of its id; of each id one row is handed out, or all of its highest issue are refused.
use mathlib.Core.Path.{◌≡◌, refl, ap, sym, subst, ◌∙◌}
use mathlib.Core.Bool.{Bool, true, false, cond}
use mathlib.Core.List.{List, [], ◌∷◌}
use Prim.Native.Nat.{ℕ, zero, suc, ◌≤◌, ◌<◌, suc-le-suc}
use native.Mathlib.Nat.{not-suc-le-zero}
use native.Mathlib.Omega.{arith}
use native.Mathlib.Decide.{dec_lt, ℕ_discrete}
use lib.Dec.{eqb}
use lib.ListN.{length, get_or, take}
use lib.Seq.{length-take-le, get_or-take}
use Rattle.latest.specs.Pile.{Row, any, same_id, higher, differs, equal, standing, verdict}
use Rattle.latest.specs.Columns.{verdicts_of}
use Rattle.latest.proofs.Bytes.{same?}
use Rattle.latest.specs.Promises.{no_row, Alike, Outcome, handed_out, refused}
use Rattle.latest.proofs.Any.{key-true, key-made, any-in, any-find, any_none, any-not, higher-true, higher-made, differs_true, differs-made, equal-made, latest-at}
use Rattle.latest.proofs.Orders.{equal_is}

-- what a verdict of 1 says
pub record One (rows : List Row) (i : ℕ) (r : Row) : Type 0 where
  pub top : any (higher r) rows ≡ false
  pub calm : any (differs r) rows ≡ false
  pub first : any (equal r) (take i rows) ≡ false

one-of : (rows : List Row) (i : ℕ) (r : Row) → verdict rows i r ≡ 1 → One rows i r
unfolding verdict standing
one-of rows i r e = go (any (higher r) rows) refl (any (differs r) rows) refl (any (equal r) (take i rows)) refl e
  where
    go : (a : Bool) → any (higher r) rows ≡ a → (b : Bool) → any (differs r) rows ≡ b → (c : Bool) → any (equal r) (take i rows) ≡ c
        → ◌≡◌ {A = ℕ} (cond (eqb (cond a 0 (cond b 17 1)) 1) (cond c 0 1) (cond a 0 (cond b 17 1))) 1 → One rows i r
    go true ea b eb c ec z = absurd (let y : ◌≡◌ {A = ℕ} 0 1 = z in omega arith)
    go false ea true eb c ec z = absurd (let y : ◌≡◌ {A = ℕ} 17 1 = z in omega arith)
    go false ea false eb true ec z = absurd (let y : ◌≡◌ {A = ℕ} 0 1 = z in omega arith)
    go false ea false eb false ec z = record { top = ea; calm = eb; first = ec }

one-made : (rows : List Row) (i : ℕ) (r : Row) → One rows i r → verdict rows i r ≡ 1
unfolding verdict standing
one-made rows i r o = rw (o.top, o.calm, o.first)

torn-made : (rows : List Row) (i : ℕ) (r : Row) → any (higher r) rows ≡ false → any (differs r) rows ≡ true → verdict rows i r ≡ 17
unfolding verdict standing
torn-made rows i r a b = rw (a, b)

-- what a verdict of 17 says
torn-of : (rows : List Row) (i : ℕ) (r : Row) → verdict rows i r ≡ 17 → (any (higher r) rows ≡ false) × (any (differs r) rows ≡ true)
unfolding verdict standing
torn-of rows i r e = go (any (higher r) rows) refl (any (differs r) rows) refl (any (equal r) (take i rows)) e
  where
    go : (a : Bool) → any (higher r) rows ≡ a → (b : Bool) → any (differs r) rows ≡ b → (c : Bool)
        → ◌≡◌ {A = ℕ} (cond (eqb (cond a 0 (cond b 17 1)) 1) (cond c 0 1) (cond a 0 (cond b 17 1))) 17 → (any (higher r) rows ≡ false) × (any (differs r) rows ≡ true)
    go true ea b eb c z = absurd (let y : ◌≡◌ {A = ℕ} 0 17 = z in omega arith)
    go false ea true eb c z = (ea, eb)
    go false ea false eb true z = absurd (let y : ◌≡◌ {A = ℕ} 0 17 = z in omega arith)
    go false ea false eb false z = absurd (let y : ◌≡◌ {A = ℕ} 1 17 = z in omega arith)

module _ (rows : List Row) where
  one_at : (i : ℕ) → i < length rows → get_or (verdicts_of rows) i 0 ≡ 1 → One rows i (get_or rows i no_row)
  one_at i h e = one-of rows i (get_or rows i no_row) (sym (latest-at rows i h) ∙ e)

  pub top_of : (r : Row) → any (higher r) rows ≡ false → (j : ℕ) → j < length rows → Alike r (get_or rows j no_row) → (get_or rows j no_row).issue ≤ r.issue
  top_of r e j hj a = go (dec_lt r.issue (get_or rows j no_row).issue)
    where
      go : Dec (r.issue < (get_or rows j no_row).issue) → (get_or rows j no_row).issue ≤ r.issue
      go (yes l) = absurd (any_none (higher r) rows e j hj (higher-made r (get_or rows j no_row) a l))
      go (no l) = omega arith

  -- no row of its id has a higher issue than a row that is handed out
  pub no-higher : (i j : ℕ) → i < length rows → j < length rows → get_or (verdicts_of rows) i 0 ≡ 1 → Alike (get_or rows i no_row) (get_or rows j no_row)
      → (get_or rows j no_row).issue ≤ (get_or rows i no_row).issue
  no-higher i j hi hj e a = top_of (get_or rows i no_row) (one_at i hi e).top j hj a

pub alike-sym : (r q : Row) → Alike r q → Alike q r
alike-sym r q a = record { high = sym a.high; low = sym a.low }

pub alike-trans : (r q s : Row) → Alike r q → Alike q s → Alike r s
alike-trans r q s a b = record { high = a.high ∙ b.high; low = a.low ∙ b.low }

abbrev Best : List Row → Row → ℕ → Type 0
Best rows r m = (k : ℕ) × (k < length rows) × Alike r (get_or rows k no_row) × ((j : ℕ) → j < m → Alike r (get_or rows j no_row) → (get_or rows j no_row).issue ≤ (get_or rows k no_row).issue)

best-next : (rows : List Row) (r : Row) (m : ℕ) → m < length rows → Best rows r m → (t : Bool) → same_id r (get_or rows m no_row) ≡ t → Best rows r (suc m)
best-next rows r m h b false e =
    (b.0, b.1, b.2, λ j jm a. go j jm a (ℕ_discrete j m))
  where
    go : (j : ℕ) → j < suc m → Alike r (get_or rows j no_row) → Dec (j ≡ m) → (get_or rows j no_row).issue ≤ (get_or rows b.0 no_row).issue
    go j jm a (yes z) = absurd (let y : same_id r (get_or rows m no_row) ≡ true = ap (λ (i : ℕ). same_id r (get_or rows i no_row)) (sym z) ∙ key-made r (get_or rows j no_row) a in let w : ◌≡◌ {A = ℕ} 0 1 = cc in omega arith)
    go j jm a (no z) = b.3 j (omega arith) a
best-next rows r m h b true e = pick (dec_lt (get_or rows b.0 no_row).issue (get_or rows m no_row).issue)
  where
    low : (k : ℕ) → ((j : ℕ) → j < m → Alike r (get_or rows j no_row) → (get_or rows j no_row).issue ≤ (get_or rows k no_row).issue) → (get_or rows m no_row).issue ≤ (get_or rows k no_row).issue
        → (j : ℕ) → j < suc m → Alike r (get_or rows j no_row) → Dec (j ≡ m) → (get_or rows j no_row).issue ≤ (get_or rows k no_row).issue
    low k f g j jm a (yes z) = omega (arith, ap (λ (i : ℕ). (get_or rows i no_row).issue) z)
    low k f g j jm a (no z) = f j (omega arith) a

    pick : Dec ((get_or rows b.0 no_row).issue < (get_or rows m no_row).issue) → Best rows r (suc m)
    pick (yes l) = (m, h, key-true r (get_or rows m no_row) e, λ j jm a. low m (λ i im c. omega (arith, b.3 i im c)) (omega arith) j jm a (ℕ_discrete j m))
    pick (no l) = (b.0, b.1, b.2, λ j jm a. low b.0 b.3 (omega arith) j jm a (ℕ_discrete j m))

best : (rows : List Row) (r : Row) (i : ℕ) → i < length rows → Alike r (get_or rows i no_row) → (m : ℕ) → m ≤ length rows → Best rows r m
best rows r i hi a zero h = (i, hi, a, λ j jm. absurd (not-suc-le-zero jm))
best rows r i hi a (suc m) h = best-next rows r m h (best rows r i hi a m (omega arith)) (same_id r (get_or rows m no_row)) refl

-- the first row of a kind
first-cons : (p : Row → Bool) (x : Row) (xs : List Row) → (any p xs ≡ true → (f : ℕ) × (f < length xs) × (p (get_or xs f no_row) ≡ true) × (any p (take f xs) ≡ false))
    → (t : Bool) → p x ≡ t → any p (x ∷ xs) ≡ true → (f : ℕ) × (f < suc (length xs)) × (p (get_or (x ∷ xs) f no_row) ≡ true) × (any p (take f (x ∷ xs)) ≡ false)
unfolding any
first-cons p x xs g true e h = (0, omega arith, e, refl)
first-cons p x xs g false e h =
    let k : any p xs ≡ true = rw e at h in
    let w = g k in (suc w.0, suc-le-suc w.1, w.2, rw (e, w.3))

first_of : (p : Row → Bool) (rows : List Row) → any p rows ≡ true → (f : ℕ) × (f < length rows) × (p (get_or rows f no_row) ≡ true) × (any p (take f rows) ≡ false)
unfolding any first-cons
first_of p [] h = absurd (let z : ◌≡◌ {A = ℕ} 0 1 = cc in omega arith)
first_of p (x ∷ xs) h = first-cons p x xs (first_of p xs) (p x) refl h

module _ (rows : List Row) (r : Row) (k : ℕ) (hk : k < length rows) (ak : Alike r (get_or rows k no_row))
    (high : (j : ℕ) → j < length rows → Alike r (get_or rows j no_row) → (get_or rows j no_row).issue ≤ (get_or rows k no_row).issue) where
  -- a row of the id with the highest issue has none above it
  none_above : (j : ℕ) → j < length rows → Alike r (get_or rows j no_row) → ((m : ℕ) → m < length rows → Alike r (get_or rows m no_row) → (get_or rows m no_row).issue ≤ (get_or rows j no_row).issue) → any (higher (get_or rows j no_row)) rows ≡ false
  none_above j hj a f = any-not (higher (get_or rows j no_row)) rows
      (λ m hm e. let t = higher-true (get_or rows j no_row) (get_or rows m no_row) e in omega (arith, t.1, f m hm (alike-trans r (get_or rows j no_row) (get_or rows m no_row) a t.0)))

  -- where two of the highest issue differ
  torn : any (differs (get_or rows k no_row)) rows ≡ true → Outcome rows r
  torn e =
      let i = any-find (differs (get_or rows k no_row)) rows e in
      let t = differs_true (get_or rows k no_row) (get_or rows i.0 no_row) i.2 in
      let am = alike-trans r (get_or rows k no_row) (get_or rows i.0 no_row) ak t.0 in
      refused k i.0 hk i.1 (λ z. t.2 (ap (λ (n : ℕ). (get_or rows n no_row).text) z)) ak am (latest-at rows k hk ∙ torn-made rows k (get_or rows k no_row) (none_above k hk ak high) e)
      (all i.0 i.1 am (λ m hm a. omega (arith, high m hm a, t.1))) all never
    where
      all : (j : ℕ) → j < length rows → Alike r (get_or rows j no_row) → ((m : ℕ) → m < length rows → Alike r (get_or rows m no_row) → (get_or rows m no_row).issue ≤ (get_or rows j no_row).issue) → get_or (verdicts_of rows) j 0 ≡ 17
      all j hj a f = latest-at rows j hj ∙ torn-made rows j (get_or rows j no_row) (none_above j hj a f) (go (same? (get_or rows j no_row).text (get_or rows k no_row).text))
        where
          jk : Alike (get_or rows j no_row) (get_or rows k no_row)
          jk = alike-trans (get_or rows j no_row) r (get_or rows k no_row) (alike-sym r (get_or rows j no_row) a) ak

          same : (get_or rows j no_row).issue ≡ (get_or rows k no_row).issue
          same = omega (arith, f k hk ak, high j hj a)

          go : Dec ((get_or rows j no_row).text ≡ (get_or rows k no_row).text) → any (differs (get_or rows j no_row)) rows ≡ true
          go (no ne) = any-in (differs (get_or rows j no_row)) rows k hk (differs-made (get_or rows j no_row) (get_or rows k no_row) jk same ne)
          go (yes x) =
              let i = any-find (differs (get_or rows k no_row)) rows e in
              let t = differs_true (get_or rows k no_row) (get_or rows i.0 no_row) i.2 in
              any-in (differs (get_or rows j no_row)) rows i.0 i.1
              (differs-made (get_or rows j no_row) (get_or rows i.0 no_row) (alike-trans (get_or rows j no_row) (get_or rows k no_row) (get_or rows i.0 no_row) jk t.0) (same ∙ t.1) (λ y. t.2 (sym x ∙ y)))

      never : (j : ℕ) → j < length rows → Alike r (get_or rows j no_row) → get_or (verdicts_of rows) j 0 ≡ 1 → ⊥
      never j hj a one =
          let f : (m : ℕ) → m < length rows → Alike r (get_or rows m no_row) → (get_or rows m no_row).issue ≤ (get_or rows j no_row).issue =
          λ m hm am. no-higher rows j m hj hm one (alike-trans (get_or rows j no_row) r (get_or rows m no_row) (alike-sym r (get_or rows j no_row) a) am) in
          omega (arith, one, all j hj a f)

  -- where all of the highest issue are alike
  calm : any (differs (get_or rows k no_row)) rows ≡ false → (f : ℕ) → f < length rows → equal (get_or rows k no_row) (get_or rows f no_row) ≡ true → any (equal (get_or rows k no_row)) (take f rows) ≡ false → Outcome rows r
  calm e f hf ef before =
      handed_out f hf (subst (λ (x : Row). Alike r x) (sym is) ak)
      (latest-at rows f hf ∙ subst (λ (x : Row). verdict rows f x ≡ 1) (sym is) (one-made rows f (get_or rows k no_row) (record { top = none_above k hk ak high; calm = e; first = before })))
      only none
    where
      is : get_or rows f no_row ≡ get_or rows k no_row
      is = equal_is (get_or rows k no_row) (get_or rows f no_row) ef

      -- a line of the id that is refused would have the highest issue, and so the bytes of line k, from which none differs
      none : (j : ℕ) → j < length rows → Alike r (get_or rows j no_row) → get_or (verdicts_of rows) j 0 ≡ 17 → ⊥
      none j hj a z =
          let s = torn-of rows j (get_or rows j no_row) (sym (latest-at rows j hj) ∙ z) in
          let kj = alike-trans (get_or rows k no_row) r (get_or rows j no_row) (alike-sym r (get_or rows k no_row) ak) a in
          let same : (get_or rows k no_row).issue ≡ (get_or rows j no_row).issue = omega (arith, high j hj a, top_of rows (get_or rows j no_row) s.0 k hk (alike-sym (get_or rows k no_row) (get_or rows j no_row) kj)) in
          let i = any-find (differs (get_or rows j no_row)) rows s.1 in
          let t = differs_true (get_or rows j no_row) (get_or rows i.0 no_row) i.2 in
          let like : (m : ℕ) → m < length rows → Alike (get_or rows k no_row) (get_or rows m no_row) → (get_or rows k no_row).issue ≡ (get_or rows m no_row).issue → (get_or rows k no_row).text ≡ (get_or rows m no_row).text =
          λ m hm am im. calm-text m hm am im (same? (get_or rows k no_row).text (get_or rows m no_row).text) in
          t.2 (sym (like j hj kj same) ∙ like i.0 i.1 (alike-trans (get_or rows k no_row) (get_or rows j no_row) (get_or rows i.0 no_row) kj t.0) (same ∙ t.1))
        where
          calm-text : (m : ℕ) → m < length rows → Alike (get_or rows k no_row) (get_or rows m no_row) → (get_or rows k no_row).issue ≡ (get_or rows m no_row).issue
              → Dec ((get_or rows k no_row).text ≡ (get_or rows m no_row).text) → (get_or rows k no_row).text ≡ (get_or rows m no_row).text
          calm-text m hm am im (yes x) = x
          calm-text m hm am im (no x) = absurd (any_none (differs (get_or rows k no_row)) rows e m hm (differs-made (get_or rows k no_row) (get_or rows m no_row) am im x))

      only : (j : ℕ) → j < length rows → Alike r (get_or rows j no_row) → get_or (verdicts_of rows) j 0 ≡ 1 → j ≡ f
      only j hj a one = pick (dec_lt j f) (dec_lt f j)
        where
          kj : Alike (get_or rows k no_row) (get_or rows j no_row)
          kj = alike-trans (get_or rows k no_row) r (get_or rows j no_row) (alike-sym r (get_or rows k no_row) ak) a

          same : (get_or rows k no_row).issue ≡ (get_or rows j no_row).issue
          same = omega (arith, high j hj a, no-higher rows j k hj hk one (alike-sym (get_or rows k no_row) (get_or rows j no_row) kj))

          text : Dec ((get_or rows k no_row).text ≡ (get_or rows j no_row).text) → (get_or rows k no_row).text ≡ (get_or rows j no_row).text
          text (yes x) = x
          text (no x) = absurd (any_none (differs (get_or rows k no_row)) rows e j hj (differs-made (get_or rows k no_row) (get_or rows j no_row) kj same x))

          ej : equal (get_or rows k no_row) (get_or rows j no_row) ≡ true
          ej = equal-made (get_or rows k no_row) (get_or rows j no_row) kj same (text (same? (get_or rows k no_row).text (get_or rows j no_row).text))

          inside : (a b : ℕ) → a < b → b < length rows → a < length (take b rows)
          inside a b l h = omega (arith, length-take-le b rows (omega arith))

          pick : Dec (j < f) → Dec (f < j) → j ≡ f
          pick (yes l) d = absurd (any_none (equal (get_or rows k no_row)) (take f rows) before j (inside j f l hf) (rw (get_or-take f rows j no_row l) ej))
          pick (no l) (no m) = omega arith
          pick (no l) (yes m) =
              let o : One rows j (get_or rows j no_row) = one_at rows j hj one in
              let js : get_or rows j no_row ≡ get_or rows k no_row = equal_is (get_or rows k no_row) (get_or rows j no_row) ej in
              absurd (any_none (equal (get_or rows j no_row)) (take j rows) o.first f (inside f j m hj) (rw (get_or-take j rows f no_row m, js) ef))

-- each id of the rows: one row handed out, or all rows of its highest issue refused
pub one-or-refused : (rows : List Row) (i : ℕ) → i < length rows → Outcome rows (get_or rows i no_row)
one-or-refused rows i h =
    let b = best rows (get_or rows i no_row) i h (record { high = refl; low = refl }) (length rows) (omega arith) in
    go b.0 b.1 b.2 b.3 (any (differs (get_or rows b.0 no_row)) rows) refl
  where
    go : (k : ℕ) → k < length rows → Alike (get_or rows i no_row) (get_or rows k no_row) → ((j : ℕ) → j < length rows → Alike (get_or rows i no_row) (get_or rows j no_row) → (get_or rows j no_row).issue ≤ (get_or rows k no_row).issue)
        → (t : Bool) → any (differs (get_or rows k no_row)) rows ≡ t → Outcome rows (get_or rows i no_row)
    go k hk ak high true e = torn rows (get_or rows i no_row) k hk ak high e
    go k hk ak high false e =
        let f = first_of (equal (get_or rows k no_row)) rows (any-in (equal (get_or rows k no_row)) rows k hk (equal-made (get_or rows k no_row) (get_or rows k no_row) (record { high = refl; low = refl }) refl refl)) in
        calm rows (get_or rows i no_row) k hk ak high e f.0 f.1 f.2 f.3
