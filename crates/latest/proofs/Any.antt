-- Laws of `any`, of the tests of two rows, and of the columns' rows. Assumes nothing.
use mathlib.Core.Path.{◌≡◌, refl, ap, sym, ◌∙◌}
use mathlib.Core.Bool.{Bool, true, false, not, ◌&&◌, ◌||◌}
use mathlib.Core.List.{List, [], ◌∷◌}
use Prim.Native.Nat.{ℕ, zero, suc, ◌+◌, ◌<◌, suc-le-suc}
use native.Mathlib.Nat.{le_of_suc-le-suc, not-suc-le-zero, suc_inj, zero-add}
use native.Mathlib.Omega.{arith}
use lib.Dec.{eqb, ltb}
use lib.ListN.{length, get_or}
use borrow.Author.Tests.{eqb-true, ltb-true, eq-eqb, lt-ltb, not-true}
use Rattle.line.specs.Later.{same_bytes}
use Rattle.latest.specs.Pile.{Row, any, higher, differs, equal, same_id, same_top, verdict}
use Rattle.latest.specs.Columns.{rows_of, verdicts_from, verdicts_of, text_in}
use Rattle.latest.specs.Promises.{no_row, Alike}
use Rattle.latest.proofs.Bytes.{same_true, same_false, same-made, same-other}

pub or_left : (a b : Bool) → a ≡ true → (a || b) ≡ true
or_left a b e = rw e

pub or_right : (a b : Bool) → b ≡ true → (a || b) ≡ true
or_right true b e = refl
or_right false b e = e

pub and_both : (a b : Bool) → (a && b) ≡ true → (a ≡ true) × (b ≡ true)
and_both true b e = (refl, e)
and_both false b e = let z : true ≡ false = sym e in (sym z, cc)

pub any-in : (p : Row → Bool) (rows : List Row) (i : ℕ) → i < length rows → p (get_or rows i no_row) ≡ true → any p rows ≡ true
unfolding any
any-in p [] i h e = absurd (not-suc-le-zero h)
any-in p (r ∷ rs) zero h e = or_left (p r) (any p rs) e
any-in p (r ∷ rs) (suc i) h e = or_right (p r) (any p rs) (any-in p rs i (le_of_suc-le-suc h) e)

any-cons : (p : Row → Bool) (r : Row) (rs : List Row) → (any p rs ≡ true → (i : ℕ) × (i < length rs) × (p (get_or rs i no_row) ≡ true)) → (t : Bool) → p r ≡ t → any p (r ∷ rs) ≡ true → (i : ℕ) × (i < suc (length rs)) × (p (get_or (r ∷ rs) i no_row) ≡ true)
unfolding any
any-cons p r rs f true e h = (0, omega arith, e)
any-cons p r rs f false e h = let k : any p rs ≡ true = rw e at h in let w = f k in (suc w.0, suc-le-suc w.1, w.2)

pub any-find : (p : Row → Bool) (rows : List Row) → any p rows ≡ true → (i : ℕ) × (i < length rows) × (p (get_or rows i no_row) ≡ true)
unfolding any any-cons
any-find p [] e = absurd (let z : ◌≡◌ {A = ℕ} 0 1 = cc in omega arith)
any-find p (r ∷ rs) e = any-cons p r rs (any-find p rs) (p r) refl e

-- what no row is
pub any_none : (p : Row → Bool) (rows : List Row) → any p rows ≡ false → (i : ℕ) → i < length rows → p (get_or rows i no_row) ≡ true → ⊥
any_none p rows e i h t = let u : any p rows ≡ true = any-in p rows i h t in let z : ◌≡◌ {A = ℕ} 0 1 = cc in omega arith

pub any-not : (p : Row → Bool) (rows : List Row) → ((i : ℕ) → i < length rows → p (get_or rows i no_row) ≡ true → ⊥) → any p rows ≡ false
any-not p rows f = go (any p rows) refl
  where
    go : (t : Bool) → any p rows ≡ t → any p rows ≡ false
    go false e = e
    go true e = let w = any-find p rows e in absurd (f w.0 w.1 w.2)

pub length-rows : (x h l s b : List ℕ) → length l ≡ length h → length s ≡ length h → length b ≡ length h → length (rows_of x h l s b) ≡ length h
unfolding rows_of
length-rows x [] l s t a b c = refl
length-rows x (y ∷ h) [] s t a b c = absurd (omega arith)
length-rows x (y ∷ h) (z ∷ l) [] t a b c = absurd (omega arith)
length-rows x (y ∷ h) (z ∷ l) (u ∷ s) [] a b c = absurd (omega arith)
length-rows x (y ∷ h) (z ∷ l) (u ∷ s) (v ∷ t) a b c = ap suc (length-rows x h l s t (suc_inj a) (suc_inj b) (suc_inj c))

pub row-at : (x h l s t : List ℕ) → length l ≡ length h → length s ≡ length h → length t ≡ length h → (i : ℕ) → i < length h
    → get_or (rows_of x h l s t) i no_row ≡ record { high = get_or h i 0; low = get_or l i 0; issue = get_or s i 0; text = text_in x t i }
unfolding rows_of
row-at x [] l s t a b c i h = absurd (not-suc-le-zero h)
row-at x (y ∷ h) [] s t a b c i k = absurd (omega arith)
row-at x (y ∷ h) (z ∷ l) [] t a b c i k = absurd (omega arith)
row-at x (y ∷ h) (z ∷ l) (u ∷ s) [] a b c i k = absurd (omega arith)
row-at x (y ∷ h) (z ∷ l) (u ∷ s) (v ∷ t) a b c zero k = refl
row-at x (y ∷ h) (z ∷ l) (u ∷ s) (v ∷ t) a b c (suc i) k = row-at x h l s t (suc_inj a) (suc_inj b) (suc_inj c) i (le_of_suc-le-suc k)

length-verdicts : (rows : List Row) (b : ℕ) (rs : List Row) → length (verdicts_from rows b rs) ≡ length rs
unfolding verdicts_from
length-verdicts rows b [] = refl
length-verdicts rows b (r ∷ rs) = ap suc (length-verdicts rows (suc b) rs)

verdicts-at : (rows : List Row) (b : ℕ) (rs : List Row) (i : ℕ) → i < length rs → get_or (verdicts_from rows b rs) i 0 ≡ verdict rows (b + i) (get_or rs i no_row)
unfolding verdicts_from
verdicts-at rows b [] i h = absurd (not-suc-le-zero h)
verdicts-at rows b (r ∷ rs) zero h = ap (λ (k : ℕ). verdict rows k r) (let e : b ≡ b + 0 = omega arith in e)
verdicts-at rows b (r ∷ rs) (suc i) h = verdicts-at rows (suc b) rs i (le_of_suc-le-suc h) ∙ ap (λ (k : ℕ). verdict rows k (get_or rs i no_row)) (let e : suc b + i ≡ b + suc i = omega arith in e)

pub length-latest : (rows : List Row) → length (verdicts_of rows) ≡ length rows
unfolding verdicts_of
length-latest rows = length-verdicts rows 0 rows

pub latest-at : (rows : List Row) (i : ℕ) → i < length rows → get_or (verdicts_of rows) i 0 ≡ verdict rows i (get_or rows i no_row)
unfolding verdicts_of
latest-at rows i h = verdicts-at rows 0 rows i h ∙ ap (λ (k : ℕ). verdict rows k (get_or rows i no_row)) (zero-add i)

-- ---- what the tests of two rows say
pub key-true : (r q : Row) → same_id r q ≡ true → Alike r q
key-true r q e =
    let b = and_both (eqb r.high q.high) (eqb r.low q.low) e in
    record { high = eqb-true r.high q.high b.0; low = eqb-true r.low q.low b.1 }

pub key-made : (r q : Row) → Alike r q → same_id r q ≡ true
key-made r q a = rw (eq-eqb r.high q.high a.high, eq-eqb r.low q.low a.low)

pub higher-true : (r q : Row) → higher r q ≡ true → Alike r q × (r.issue < q.issue)
unfolding higher
higher-true r q e = let b = and_both (same_id r q) (ltb r.issue q.issue) e in (key-true r q b.0, ltb-true r.issue q.issue b.1)

pub higher-made : (r q : Row) → Alike r q → r.issue < q.issue → higher r q ≡ true
unfolding higher
higher-made r q a lt = rw (key-made r q a, lt-ltb r.issue q.issue lt)

pub top-true : (r q : Row) → same_top r q ≡ true → Alike r q × (r.issue ≡ q.issue)
top-true r q e = let b = and_both (same_id r q) (eqb r.issue q.issue) e in (key-true r q b.0, eqb-true r.issue q.issue b.1)

pub top-made : (r q : Row) → Alike r q → r.issue ≡ q.issue → same_top r q ≡ true
top-made r q a e = rw (key-made r q a, eq-eqb r.issue q.issue e)

pub differs_true : (r q : Row) → differs r q ≡ true → Alike r q × (r.issue ≡ q.issue) × (r.text ≡ q.text → ⊥)
unfolding differs
differs_true r q e =
    let b = and_both (same_top r q) (not (same_bytes r.text q.text)) e in
    let t = top-true r q b.0 in (t.0, t.1, same_false r.text q.text (not-true (same_bytes r.text q.text) b.1))

pub differs-made : (r q : Row) → Alike r q → r.issue ≡ q.issue → (r.text ≡ q.text → ⊥) → differs r q ≡ true
unfolding differs
differs-made r q a e ne = rw (top-made r q a e, same-other r.text q.text ne)

pub equal-true : (r q : Row) → equal r q ≡ true → Alike r q × (r.issue ≡ q.issue) × (r.text ≡ q.text)
unfolding equal
equal-true r q e =
    let b = and_both (same_top r q) (same_bytes r.text q.text) e in
    let t = top-true r q b.0 in (t.0, t.1, same_true r.text q.text b.1)

pub equal-made : (r q : Row) → Alike r q → r.issue ≡ q.issue → r.text ≡ q.text → equal r q ≡ true
unfolding equal
equal-made r q a e f = rw (top-made r q a e, same-made r.text q.text f)
