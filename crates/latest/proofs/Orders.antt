-- Laws of `verdicts_of`: another order of the rows hands out the same rows, each once.
use mathlib.Core.Path.{◌≡◌, refl, ap, ap₂, sym, ◌∙◌}
use mathlib.Core.Bool.{Bool, true, false, cond, ◌||◌}
use mathlib.Core.List.{List, [], ◌∷◌, ◌++◌, append_assoc}
use Prim.Native.Nat.{ℕ, suc, ◌+◌}
use native.Mathlib.Omega.{arith}
use lib.Dec.{eqb}
use lib.ListN.{length, take, length-append}
use lib.Seq.{take-append_seam}
use Rattle.latest.specs.Pile.{Row, any, higher, differs, equal, standing, verdict}
use Rattle.latest.specs.Promises.{Perm, done, keep, swap, then, handed_from, handed, refused_from, refused_rows, count_row}
use Rattle.latest.proofs.Any.{equal-true, equal-made}

or_swap : (a b c : Bool) → (a || (b || c)) ≡ (b || (a || c))
or_swap true true c = refl
or_swap true false c = refl
or_swap false true c = refl
or_swap false false c = refl

pub any-perm : (p : Row → Bool) {a b : List Row} → Perm a b → any p a ≡ any p b
unfolding any
any-perm p done = refl
any-perm p (keep r s) = ap (λ (t : Bool). p r || t) (any-perm p s)
any-perm p (swap {a = a} r q) = or_swap (p r) (p q) (any p a)
any-perm p (then s t) = any-perm p s ∙ any-perm p t

-- a row's standing does not hang on the order
pub standing-perm : (r : Row) {a b : List Row} → Perm a b → standing a r ≡ standing b r
unfolding standing
standing-perm r s = ap₂ (λ (x y : Bool). cond x 0 (cond y 17 1)) (any-perm (higher r) s) (any-perm (differs r) s)

or_step : (t a b c : Bool) → a ≡ (b || c) → (t || a) ≡ ((t || b) || c)
or_step true a b c e = refl
or_step false a b c e = e

any_snoc : (p : Row → Bool) (a : List Row) (q : Row) → any p (a ++ q ∷ []) ≡ (any p a || p q)
unfolding any
any_snoc p [] q = go (p q)
  where
    go : (t : Bool) → (t || false) ≡ t
    go true = refl
    go false = refl
any_snoc p (x ∷ a) q = or_step (p x) (any p (a ++ q ∷ [])) (any p a) (p q) (any_snoc p a q)

pub equal_is : (r q : Row) → equal r q ≡ true → q ≡ r
equal_is r q e =
    let t = equal-true r q e in
    λ i. record { high = sym t.0.high i; low = sym t.0.low i; issue = sym t.1 i; text = sym t.2 i }

pub equal-self : (r : Row) → equal r r ≡ true
equal-self r = equal-made r r (record { high = refl; low = refl }) refl refl

none : (b p : Bool) → ◌≡◌ {A = ℕ} 0 (cond b (cond p 0 0) 0)
none true true = refl
none true false = refl
none false p = refl

skip : (r q : Row) (rest : List Row) (t : Bool) → equal r q ≡ false → count_row r (cond t (q ∷ rest) rest) ≡ count_row r rest
unfolding count_row
skip r q rest true e = rw e (omega arith)
skip r q rest false e = refl

verdict-at : (rows pre rs : List Row) (q : Row) → rows ≡ pre ++ rs → verdict rows (length pre) q ≡ cond (eqb (standing rows q) 1) (cond (any (equal q) pre) 0 1) (standing rows q)
unfolding verdict
verdict-at rows pre rs q e = ap (λ (l : List Row). cond (eqb (standing rows q) 1) (cond (any (equal q) l) 0 1) (standing rows q)) (ap (λ (l : List Row). take (length pre) l) e ∙ take-append_seam pre rs)

-- of the copies of a row the first alone is handed out, and only where the row stands alone
once-cons : (rows pre : List Row) (r q : Row) (qs rest : List Row) (n : ℕ)
    → count_row r rest ≡ cond (eqb (standing rows r) 1) (cond (any (equal r) pre || equal r q) 0 (cond (any (equal r) qs) 1 0)) 0
    → verdict rows n q ≡ cond (eqb (standing rows q) 1) (cond (any (equal q) pre) 0 1) (standing rows q)
    → (e b p : Bool) → equal r q ≡ e → eqb (standing rows r) 1 ≡ b → any (equal r) pre ≡ p
    → count_row r (cond (eqb (verdict rows n q) 1) (q ∷ rest) rest) ≡ cond (eqb (standing rows r) 1) (cond (any (equal r) pre) 0 (cond (any (equal r) (q ∷ qs)) 1 0)) 0
unfolding count_row any
once-cons rows pre r q qs rest n ih v true true true ee eb ep =
    let w : verdict rows n q ≡ 0 = v ∙ rw (equal_is r q ee, eb, ep) in
    rw (w, eb, ep) (ih ∙ rw (eb, ep))
once-cons rows pre r q qs rest n ih v true true false ee eb ep =
    let w : verdict rows n q ≡ 1 = v ∙ rw (equal_is r q ee, eb, ep) in
    let z : count_row r rest ≡ 0 = ih ∙ rw (eb, ep, ee) in
    rw (w, eb, ep, ee) (omega arith)
once-cons rows pre r q qs rest n ih v true false p ee eb ep =
    let w : eqb (verdict rows n q) 1 ≡ false = rw (v, equal_is r q ee, eb) eb in
    rw (w, eb) (ih ∙ rw eb)
once-cons rows pre r q qs rest n ih v false b true ee eb ep = skip r q rest (eqb (verdict rows n q) 1) ee ∙ ih ∙ rw (ee, ep)
once-cons rows pre r q qs rest n ih v false b false ee eb ep = skip r q rest (eqb (verdict rows n q) 1) ee ∙ ih ∙ rw (ee, ep)

once : (rows pre rs : List Row) (r : Row) → rows ≡ pre ++ rs
    → count_row r (handed_from rows (length pre) rs) ≡ cond (eqb (standing rows r) 1) (cond (any (equal r) pre) 0 (cond (any (equal r) rs) 1 0)) 0
unfolding handed_from count_row any once-cons
once rows pre [] r e = none (eqb (standing rows r) 1) (any (equal r) pre)
once rows pre (q ∷ qs) r e =
    let step : length (pre ++ q ∷ []) ≡ suc (length pre) = length-append pre (q ∷ []) ∙ (let z : length pre + 1 ≡ suc (length pre) = omega arith in z) in
    let ih : count_row r (handed_from rows (suc (length pre)) qs) ≡ cond (eqb (standing rows r) 1) (cond (any (equal r) pre || equal r q) 0 (cond (any (equal r) qs) 1 0)) 0 =
    ap (λ (n : ℕ). count_row r (handed_from rows n qs)) (sym step) ∙ once rows (pre ++ q ∷ []) qs r (e ∙ sym (append_assoc pre (q ∷ []) qs)) ∙ rw (any_snoc (equal r) pre q) in
    once-cons rows pre r q qs (handed_from rows (suc (length pre)) qs) (length pre) ih (verdict-at rows pre (q ∷ qs) q e) (equal r q) (eqb (standing rows r) 1) (any (equal r) pre) refl refl refl

-- how often a row is handed out: once where it is there and stands alone, else never
pub handed-count : (rows : List Row) (r : Row) → count_row r (handed rows) ≡ cond (eqb (standing rows r) 1) (cond (any (equal r) rows) 1 0) 0
unfolding handed any
handed-count rows r = once rows [] rows r refl

-- another order of the rows hands out the same rows as often
pub handed-perm : {a b : List Row} → Perm a b → (r : Row) → count_row r (handed a) ≡ count_row r (handed b)
handed-perm {a} {b} s r = handed-count a r ∙ ap₂ (λ (n : ℕ) (t : Bool). cond (eqb n 1) (cond t 1 0) 0) (standing-perm r s) (any-perm (equal r) s) ∙ sym (handed-count b r)

pub count-perm : (r : Row) {a b : List Row} → Perm a b → count_row r a ≡ count_row r b
unfolding count_row
count-perm r done = refl
count-perm r (keep q s) = ap (λ (n : ℕ). cond (equal r q) 1 0 + n) (count-perm r s)
count-perm r (swap {a = a} p q) =
    let z : cond (equal r p) 1 0 + (cond (equal r q) 1 0 + count_row r a) ≡ cond (equal r q) 1 0 + (cond (equal r p) 1 0 + count_row r a) = omega arith in
    z
count-perm r (then s t) = count-perm r s ∙ count-perm r t

seventeen : (rows : List Row) (i : ℕ) (q : Row) → eqb (verdict rows i q) 17 ≡ eqb (standing rows q) 17
unfolding verdict standing
seventeen rows i q = go (any (higher q) rows) (any (differs q) rows) (any (equal q) (take i rows))
  where
    go : (a b c : Bool) → eqb (cond (eqb (cond a 0 (cond b 17 1)) 1) (cond c 0 1) (cond a 0 (cond b 17 1))) 17 ≡ eqb (cond a 0 (cond b 17 1)) 17
    go true b c = refl
    go false true c = refl
    go false false true = refl
    go false false false = refl

refused-cons : (r q : Row) (rest qs : List Row) (v e b : Bool) → equal r q ≡ e → (e ≡ true → v ≡ b) → count_row r rest ≡ cond b (count_row r qs) 0
    → count_row r (cond v (q ∷ rest) rest) ≡ cond b (count_row r (q ∷ qs)) 0
unfolding count_row
refused-cons r q rest qs v true true ee f ih = rw (f refl, ee) (omega arith)
refused-cons r q rest qs v true false ee f ih = rw (f refl) ih
refused-cons r q rest qs v false true ee f ih = skip r q rest v ee ∙ ih ∙ rw ee (omega arith)
refused-cons r q rest qs v false false ee f ih = skip r q rest v ee ∙ ih

refused-from : (rows : List Row) (i : ℕ) (rs : List Row) (r : Row) → count_row r (refused_from rows i rs) ≡ cond (eqb (standing rows r) 17) (count_row r rs) 0
unfolding refused_from count_row refused-cons
refused-from rows i [] r = none (eqb (standing rows r) 17) true
refused-from rows i (q ∷ qs) r =
    refused-cons r q (refused_from rows (suc i) qs) qs (eqb (verdict rows i q) 17) (equal r q) (eqb (standing rows r) 17) refl
    (λ e. seventeen rows i q ∙ ap (λ (x : Row). eqb (standing rows x) 17) (equal_is r q e)) (refused-from rows (suc i) qs r)

-- a row is refused as often as it is there, where it does not stand alone
pub refused-count : (rows : List Row) (r : Row) → count_row r (refused_rows rows) ≡ cond (eqb (standing rows r) 17) (count_row r rows) 0
unfolding refused_rows
refused-count rows r = refused-from rows 0 rows r

-- another order of the rows refuses the same rows as often
pub refused-perm : {a b : List Row} → Perm a b → (r : Row) → count_row r (refused_rows a) ≡ count_row r (refused_rows b)
refused-perm {a} {b} s r = refused-count a r ∙ ap₂ (λ (n m : ℕ). cond (eqb n 17) m 0) (standing-perm r s) (count-perm r s) ∙ sym (refused-count b r)
