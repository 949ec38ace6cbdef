-- The rows of a prepared chain: what the numbers written there say, that a step's figures are in range, and rows one after another. Assumes nothing.
use mathlib.Core.Path.{◌≡◌, refl, sym, ◌∙◌, ap, ap₂}
use mathlib.Core.Bool.{true, false, ◌&&◌}
use mathlib.Core.List.{List, [], ◌∷◌, ◌++◌, reverse, reverse_aux-eq}
use Prim.Native.Nat.{ℕ, zero, suc, ◌+◌, ◌*◌, ◌<◌, ◌≤◌}
use native.Mathlib.Nat.{add-zero}
use native.Mathlib.Omega.{arith}
use borrow.Author.Tests.{lt-ltb}
use lib.Dec.{T, ltb, ltb→lt}
use lib.IntN.{ℤ, pos, nat_abs}
use lib.ListN.{length, get_or, set, length-set}
use lib.Seq.{sets, get_or-set_same, get_or-set_other}
use mir.Syntax.{w64}
use mir.Val.{Fits}
use Rattle.ranges.specs.Ranges.{equal, up_to, shift_range, scale_range}
use Rattle.ranges.proofs.Ranges.{natural-holds, both, all, above, equal-self, up-to, up-to-holds}
use Rattle.chain.specs.declared.Realization.{Realization}
use Rattle.chain.specs.declared.Step.{Step}
use Rattle.chain.specs.declared.steps.Ready.{Ready}
use Rattle.chain.specs.declared.steps.Ready.TheVariants.{Fixed, Turned, Scaled}
use Rattle.chain.specs.Prepared.{Row}
use Rattle.chain.specs.Axes.{Axis, on_x, on_y, on_z, coordinate}
use Rattle.chain.specs.Ready.{ReadyOk, Prepares}
use Rattle.chain.specs.Prepared.{number, form_range, numbers_of, ready_of, ready_at, ready_range, row_at, rows_of, first_row, Readied}

-- ---- numbers written in a list
below : (vs l : List ℤ) (i k : ℕ) (d : ℤ) → k < i → get_or (sets l i vs) k d ≡ get_or l k d
below [] l i k d h = refl
below (v ∷ vs) l i k d h = below vs (set l i v) (suc i) k d (omega arith) ∙ get_or-set_other l i k v d (λ e. omega arith)

beyond : (vs l : List ℤ) (i k : ℕ) (d : ℤ) → i + length vs ≤ k → get_or (sets l i vs) k d ≡ get_or l k d
beyond [] l i k d h = refl
beyond (v ∷ vs) l i k d h = beyond vs (set l i v) (suc i) k d (omega arith) ∙ get_or-set_other l i k v d (λ e. omega arith)

inside : (vs l : List ℤ) (i j : ℕ) (d : ℤ) → j < length vs → i + j < length l → get_or (sets l i vs) (i + j) d ≡ get_or vs j d
inside [] l i j d h g = absurd (omega arith)
inside (v ∷ vs) l i zero d h g = rw add-zero (below vs (set l i v) (suc i) i d (omega arith) ∙ get_or-set_same l i v d (omega arith))
inside (v ∷ vs) l i (suc j) d h g =
    let e : i + suc j ≡ suc i + j = omega arith in
    let f = length-set l i v in
    rw e (inside vs (set l i v) (suc i) j d (omega arith) (omega arith))

-- ---- where a row's numbers stand, of nine rows of eight: each place, and its bytes, fit a usize, and it is within the numbers
module _ {i : ℕ} (h : i < 9) where
  pub row_fits : Fits w64 (8 * i)
  row_fits = record { fits = omega arith }

  pub row-bytes : Fits w64 (8 * i * 8)
  row-bytes = record { fits = omega arith }

  pub row_within : 8 * i < 72
  row_within = omega arith

  pub index-fits : (k : ℕ) → T (ltb k 8) → Fits w64 (8 * i + k)
  index-fits k t = record { fits = omega (arith, ltb→lt k 8 t) }

  pub index-bytes : (k : ℕ) → T (ltb k 8) → Fits w64 ((8 * i + k) * 8)
  index-bytes k t = record { fits = omega (arith, ltb→lt k 8 t) }

  pub index-within : (k : ℕ) → T (ltb k 8) → 8 * i + k < 72
  index-within k t = omega (arith, ltb→lt k 8 t)

-- eight numbers written one after the other are a row
pub eight-set : (l : List ℤ) (i : ℕ) {a b c d e f g h a' b' c' d' e' f' g' h' : ℤ} → a ≡ a' → b ≡ b' → c ≡ c' → d ≡ d' → e ≡ e' → f ≡ f' → g ≡ g' → h ≡ h' →
    set (set (set (set (set (set (set (set l i a) (i + 1) b) (i + 2) c) (i + 3) d) (i + 4) e) (i + 5) f) (i + 6) g) (i + 7) h ≡ sets l i (a' ∷ b' ∷ c' ∷ d' ∷ e' ∷ f' ∷ g' ∷ h' ∷ [])
eight-set l i p q r s t u v w =
    let b1 : i + 1 ≡ suc i = omega arith in
    let b2 : i + 2 ≡ suc (suc i) = omega arith in
    let b3 : i + 3 ≡ suc (suc (suc i)) = omega arith in
    let b4 : i + 4 ≡ suc (suc (suc (suc i))) = omega arith in
    let b5 : i + 5 ≡ suc (suc (suc (suc (suc i)))) = omega arith in
    let b6 : i + 6 ≡ suc (suc (suc (suc (suc (suc i))))) = omega arith in
    let b7 : i + 7 ≡ suc (suc (suc (suc (suc (suc (suc i)))))) = omega arith in
    rw (b1, b2, b3, b4, b5, b6, b7, p, q, r, s, t, u, v, w)

-- a row's first number, where it stands
pub first-number : (l : List ℤ) (i : ℕ) {z : ℤ} → z ≡ get_or l (8 * i) (pos 0) → z ≡ number l i 0
first-number l i e = e ∙ ap (λ (n : ℕ). get_or l n (pos 0)) (add_none i)
  where
    add_none : (j : ℕ) → 8 * j ≡ 8 * j + 0
    add_none j = omega arith

-- what eight numbers say, number by number
pub eight : {a b c d e f g h a' b' c' d' e' f' g' h' : ℤ} → a ≡ a' → b ≡ b' → c ≡ c' → d ≡ d' → e ≡ e' → f ≡ f' → g ≡ g' → h ≡ h' → ready_of a b c d e f g h ≡ ready_of a' b' c' d' e' f' g' h'
eight p q r s t u v w = rw (p, q, r, s, t, u, v, w)

pub eight-say : {a b c d e f g h a' b' c' d' e' f' g' h' : ℤ} → a ≡ a' → b ≡ b' → c ≡ c' → d ≡ d' → e ≡ e' → f ≡ f' → g ≡ g' → h ≡ h' →
    (r : Ready) → r ≡ ready_of a b c d e f g h → r ≡ ready_of a' b' c' d' e' f' g' h'
eight-say p q r s t u v w x k = k ∙ eight p q r s t u v w

same-ready : (l : List ℤ) (i : ℕ) (m : List ℤ) (j : ℕ) → ((k : ℕ) → k < 8 → number l i k ≡ number m j k) → ready_at l i ≡ ready_at m j
unfolding ready_at
same-ready l i m j h = eight (h 0 (omega arith)) (h 1 (omega arith)) (h 2 (omega arith)) (h 3 (omega arith)) (h 4 (omega arith)) (h 5 (omega arith)) (h 6 (omega arith)) (h 7 (omega arith))

abbrev row : ℤ → Ready → Row
row form r = record { good = form_range form && ready_range r; ready = r }

same_row : (l : List ℤ) (i : ℕ) (m : List ℤ) (j : ℕ) → ((k : ℕ) → k < 8 → number l i k ≡ number m j k) → row_at l i ≡ row_at m j
unfolding row_at
same_row l i m j h = ap₂ row (h 0 (omega arith)) (same-ready l i m j h)

-- a step's numbers, written field by field
pub eight-list : {a b c d e f g h a' b' c' d' e' f' g' h' : ℤ} → a ≡ a' → b ≡ b' → c ≡ c' → d ≡ d' → e ≡ e' → f ≡ f' → g ≡ g' → h ≡ h' →
    ◌≡◌ {A = List ℤ} (a ∷ b ∷ c ∷ d ∷ e ∷ f ∷ g ∷ h ∷ []) (a' ∷ b' ∷ c' ∷ d' ∷ e' ∷ f' ∷ g' ∷ h' ∷ [])
eight-list p q r s t u v w = rw (p, q, r, s, t, u, v, w)

pub written : (l : List ℤ) (i : ℕ) {m : List ℤ} {r s : Ready} {ns : List ℤ} → r ≡ s → m ≡ sets l i ns → ns ≡ numbers_of s → m ≡ sets l i (numbers_of r)
written l i e h q = h ∙ ap (sets l i) q ∙ ap (λ (x : Ready). sets l i (numbers_of x)) (sym e)

pub numbers-length : (r : Ready) → length (numbers_of r) ≡ 8
numbers-length (Fixed g) = refl
numbers-length (Turned t) = refl
numbers-length (Scaled t) = refl

-- a form that comes later
other-form : (n m : ℕ) → n < m → equal (pos n) (pos m) ≡ false
other-form n m h = above (pos n) (pos m) (pos n) (lt-ltb n m h)

-- the numbers of a step say it
says : (r : Ready) → ready_at (numbers_of r) 0 ≡ r
unfolding ready_at
says (Fixed g) = rw (equal-self (pos 0))
says (Turned t) = rw (other-form 0 1 (omega arith), equal-self (pos 1))
says (Scaled t) = rw (other-form 0 2 (omega arith), other-form 1 2 (omega arith))

known : (r : Ready) → form_range (number (numbers_of r) 0 0) ≡ true
known (Fixed g) = natural-holds 0 0 2 (omega arith) (omega arith)
known (Turned t) = natural-holds 0 1 2 (omega arith) (omega arith)
known (Scaled t) = natural-holds 0 2 2 (omega arith) (omega arith)

-- ---- what is ready for a step is in range
ok-range : (r : Ready) → ReadyOk r → ready_range r ≡ true
unfolding ready_range
ok-range (Fixed g) o = rw (up-to-holds 100000000 g.x (o.on on_x), up-to-holds 100000000 g.y (o.on on_y), up-to-holds 100000000 g.z (o.on on_z))
ok-range (Turned t) o =
    rw (up-to-holds 100000000 t.dx o.dx, up-to-holds 100000000 t.dy o.dy, up-to-holds 100000000 t.dz o.dz, up-to-holds 4848234 t.rx o.rx, up-to-holds 4848234 t.ry o.ry, up-to-holds 4848234 t.rz o.rz, up-to-holds 2000000 t.s o.s)
ok-range (Scaled t) o =
    rw (up-to-holds 1971000000000000000 t.kx o.kx, up-to-holds 1971000000000000000 t.ky o.ky, up-to-holds 1971000000000000000 t.kz o.kz, up-to-holds 1202000 t.slope o.slope)

says_row : (r : Ready) → ReadyOk r → row_at (numbers_of r) 0 ≡ record { good = true; ready = r }
unfolding row_at
says_row r ok = rw (says r, known r, ok-range r ok)

module _ (l : List ℤ) (i : ℕ) (r : Ready) where
  -- a row before them is as it was, and they are a step's
  pub before : (k : ℕ) → k < i → row_at (sets l (8 * i) (numbers_of r)) k ≡ row_at l k
  before k h = same_row _ k l k (λ j g. below (numbers_of r) l (8 * i) (8 * k + j) (pos 0) (omega arith))

  pub here : 8 * i + 8 ≤ length l → ReadyOk r → row_at (sets l (8 * i) (numbers_of r)) i ≡ record { good = true; ready = r }
  here h ok =
      same_row _ i (numbers_of r) 0 (λ j g. inside (numbers_of r) l (8 * i) j (pos 0) (omega (arith, numbers-length r)) (omega arith) ∙ ap (λ (n : ℕ). get_or (numbers_of r) n (pos 0)) (zero-add j))
      ∙ says_row r ok
    where
      zero-add : (j : ℕ) → j ≡ 8 * 0 + j
      zero-add j = omega arith

-- the first row leaves the others as they were
pub after_first : (l : List ℤ) (n : ℤ) (start end : Realization) (i : ℕ) → 1 ≤ i → row_at (sets l 0 (first_row n start end)) i ≡ row_at l i
after_first l n start end i h = same_row _ i l i (λ j g. beyond (first_row n start end) l 0 (8 * i + j) (pos 0) (omega arith))

-- and says what was written there
pub first-at : (l : List ℤ) (n : ℤ) (start end : Realization) (j : ℕ) → j < 5 → length l ≡ 72 → number (sets l 0 (first_row n start end)) 0 j ≡ get_or (first_row n start end) j (pos 0)
first-at l n start end j h e =
    let z : 8 * 0 + j ≡ 0 + j = omega arith in
    rw z (inside (first_row n start end) l 0 j (pos 0) (omega arith) (omega arith))

-- ---- a chain with one row more
pub same_rows : (l m : List ℤ) (i n : ℕ) → ((k : ℕ) → i ≤ k → k < i + n → row_at m k ≡ row_at l k) → rows_of m i n ≡ rows_of l i n
unfolding rows_of
same_rows l m i zero h = refl
same_rows l m i (suc n) h = rw (h i (omega arith) (omega arith), same_rows l m (suc i) n (λ k f g. h k (omega arith) (omega arith)))

pub more : (l : List ℤ) (i n : ℕ) → rows_of l i (n + 1) ≡ rows_of l i n ++ (row_at l (i + n) ∷ [])
unfolding rows_of
more l i zero = rw add-zero
more l i (suc n) =
    let e : suc n + 1 ≡ suc (n + 1) = omega arith in
    let f : i + suc n ≡ suc i + n = omega arith in
    rw (e, f, more l (suc i) n)

pub readied-more : (ss : List Step) (rs : List Row) (s : Step) (r : Row) → Readied ss rs → r.good ≡ true → Prepares s r.ready → Readied (ss ++ (s ∷ [])) (rs ++ (r ∷ []))
readied-more [] [] s r h g p = (g, p, tt)
readied-more [] (x ∷ rs) s r h g p = absurd h
readied-more (t ∷ ss) [] s r h g p = absurd h
readied-more (t ∷ ss) (x ∷ rs) s r h g p = (h.0, h.1, readied-more ss rs s r h.2 g p)

pub readied-back : (ss : List Step) (rs : List Row) → Readied ss rs → Readied (reverse ss) (reverse rs)
readied-back [] [] h = tt
readied-back [] (x ∷ rs) h = absurd h
readied-back (t ∷ ss) [] h = absurd h
readied-back (t ∷ ss) (x ∷ rs) h = rw (reverse_aux-eq ss (t ∷ []), reverse_aux-eq rs (x ∷ [])) (readied-more (reverse ss) (reverse rs) t x (readied-back ss rs h.2) h.0 h.1)

pub range-ok : (r : Ready) → ready_range r ≡ true → ReadyOk r
unfolding ready_range
range-ok (Fixed g) e =
    let f = all (shift_range g.x) (shift_range g.y) (shift_range g.z) e in
    record { on = on (up-to 100000000 g.x f.0) (up-to 100000000 g.y f.1) (up-to 100000000 g.z f.2) }
  where
    on : nat_abs g.x ≤ 100000000 → nat_abs g.y ≤ 100000000 → nat_abs g.z ≤ 100000000 → (i : Axis) → nat_abs (coordinate i g) ≤ 100000000
    on x y z on_x = x
    on x y z on_y = y
    on x y z on_z = z
range-ok (Turned t) e =
    let f = both (shift_range t.dx && shift_range t.dy && shift_range t.dz) _ e in
    let d = all (shift_range t.dx) (shift_range t.dy) (shift_range t.dz) f.0 in
    let g = both (up_to 4848234 t.rx && up_to 4848234 t.ry && up_to 4848234 t.rz) (scale_range t.s) f.1 in
    let r = all (up_to 4848234 t.rx) (up_to 4848234 t.ry) (up_to 4848234 t.rz) g.0 in
    record {
      dx = up-to 100000000 t.dx d.0;
      dy = up-to 100000000 t.dy d.1;
      dz = up-to 100000000 t.dz d.2;
      rx = up-to 4848234 t.rx r.0;
      ry = up-to 4848234 t.ry r.1;
      rz = up-to 4848234 t.rz r.2;
      s = up-to 2000000 t.s g.1;
    }
range-ok (Scaled t) e =
    let f = both (up_to 1971000000000000000 t.kx && up_to 1971000000000000000 t.ky && up_to 1971000000000000000 t.kz) (up_to 1202000 t.slope) e in
    let d = all (up_to 1971000000000000000 t.kx) (up_to 1971000000000000000 t.ky) (up_to 1971000000000000000 t.kz) f.0 in
    record {
      kx = up-to 1971000000000000000 t.kx d.0;
      ky = up-to 1971000000000000000 t.ky d.1;
      kz = up-to 1971000000000000000 t.kz d.2;
      slope = up-to 1202000 t.slope f.1;
    }

-- a good row's figures are no larger than a step's
pub row_ok : (l : List ℤ) (i : ℕ) → (row_at l i).good ≡ true → ReadyOk (row_at l i).ready
unfolding row_at
row_ok l i e = range-ok (ready_at l i) (both (form_range (number l i 0)) (ready_range (ready_at l i)) e).1
