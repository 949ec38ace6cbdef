-- The laws of the lines of an input. Assumes nothing.
use Rattle.std.proofs.Common.{◌≡◌, ℕ, zero, suc, ◌+◌, ◌-◌, ◌<◌, ◌≤◌, Bool, true, false, ◌||◌, eqb, List, [], ◌∷◌, length, get_or, take, drop, sym, refl, ap, ◌∙◌, add-zero, add-one, arith, length-drop, drop_of_length-le, length-take, take_all, drop-cons, drop-drop, eq-eqb, ne_eqb}
use native.Mathlib.Decide.{dec_lt}
use borrow.Author.Tests.{eqb-false}
use Rattle.refusal.specs.Order.{pick}
use Rattle.line.specs.Bytes.{line_feed}
use Rattle.line.specs.Fields.{front}
use Rattle.line.specs.Lines.{lines, first_length, line_end, line_at, Clear, Onward}

-- ---- byte by byte
pub no_lines : lines [] ≡ []
unfolding lines
no_lines = refl

pub lines-on : (b : ℕ) (s : List ℕ) → lines (b ∷ s) ≡ pick (eqb b line_feed) ((b ∷ []) ∷ lines s) (front b (lines s))
unfolding lines
lines-on b s = refl

pub first-none : first_length [] ≡ 0
unfolding first_length
first-none = refl

pub first_on : (b : ℕ) (s : List ℕ) → first_length (b ∷ s) ≡ pick (eqb b line_feed) 1 (suc (first_length s))
unfolding first_length
first_on b s = refl

pub first-end : (s : List ℕ) → line_end s 0 ≡ first_length s
unfolding line_end
first-end s = omega arith

-- ---- the first line's length, by its first byte
pub length-feed : (s : List ℕ) (i : ℕ) → i < length s → get_or s i 0 ≡ line_feed → first_length (drop i s) ≡ 1
unfolding first_length
length-feed s i h e = rw (drop-cons s i 0 h, eq-eqb (get_or s i 0) line_feed e)

pub length_more : (s : List ℕ) (i : ℕ) → i < length s → (get_or s i 0 ≡ line_feed → ⊥) → first_length (drop i s) ≡ suc (first_length (drop (i + 1) s))
unfolding first_length
length_more s i h e = rw (drop-cons s i 0 h, ne_eqb (get_or s i 0) line_feed e, add-one)

pub length_none : (s : List ℕ) (i : ℕ) → length s ≤ i → first_length (drop i s) ≡ 0
unfolding first_length
length_none s i h = rw (drop_of_length-le s h)

-- ---- several bytes at once
-- k bytes at once are one byte k times
passed : (k : ℕ) (s : List ℕ) (p : ℕ) → p + k ≤ length s → ((i : ℕ) → i < k → get_or s (p + i) 0 ≡ line_feed → ⊥) → p + k + first_length (drop (p + k) s) ≡ p + first_length (drop p s)
passed zero s p h c = rw add-zero
passed (suc k) s p h c =
    let e : p + suc k ≡ p + 1 + k = omega arith in
    let on = passed k s (p + 1) (omega arith) (λ i l q. c (suc i) (omega arith) (ap (λ (j : ℕ). get_or s j 0) (omega arith) ∙ q)) in
    let here : get_or s p 0 ≡ line_feed → ⊥ = λ q. c 0 (omega arith) (ap (λ (j : ℕ). get_or s j 0) (add-zero p) ∙ q) in
    rw e (omega (arith, on, length_more s p (omega arith) here))

pub skip : (k : ℕ) (s : List ℕ) (p q : ℕ) → Onward s p q → q + k ≤ length s → Clear k s q → Onward s p (q + k)
unfolding line_end
skip k s p q o h c = record { ends = passed k s q h c.none ∙ o.ends }

-- two runs side by side
pub joined : (j k : ℕ) (s : List ℕ) (p : ℕ) → Clear j s p → Clear k s (p + j) → Clear (j + k) s p
joined j k s p a b = record { none = λ i h. go i h (dec_lt i j) }
  where
    go : (i : ℕ) → i < j + k → Dec (i < j) → get_or s (p + i) 0 ≡ line_feed → ⊥
    go i h (yes l) e = a.none i l e
    go i h (no l) e = b.none (i - j) (omega arith) (ap (λ (m : ℕ). get_or s m 0) (omega arith) ∙ e)

-- tests joined by `|`
pub one : (s : List ℕ) (p : ℕ) → eqb (get_or s p 0) line_feed ≡ false → Clear 1 s p
one s p e = record { none = λ i h q. eqb-false (get_or s p 0) line_feed e (ap (λ (m : ℕ). get_or s m 0) (omega arith) ∙ q) }

pub either : {s : List ℕ} {p : ℕ} {a b : Bool} (j k : ℕ) → (a ≡ false → Clear j s p) → (b ≡ false → Clear k s (p + j)) → (a || b) ≡ false → Clear (j + k) s p
either {s} {p} {a = false} {b} j k f g e = joined j k s p (f refl) (g e)
either {s} {p} {a = true} {b} j k f g e = let w : ◌≡◌ {A = ℕ} 0 1 = cc in absurd (omega arith)

pub other : (s : List ℕ) (p : ℕ) → (get_or s p 0 ≡ line_feed → ⊥) → Clear 1 s p
other s p e = one s p (ne_eqb (get_or s p 0) line_feed e)

pub stands : (s : List ℕ) (p : ℕ) → Onward s p (p + 0)
stands s p = record { ends = ap (line_end s) (add-zero p) }

-- one byte more of k
pub further : (s : List ℕ) (p k : ℕ) → Onward s p (p + k) → p + k < length s → (get_or s (p + k) 0 ≡ line_feed → ⊥) → Onward s p (p + (k + 1))
further s p k o h e = let q : p + k + 1 ≡ p + (k + 1) = omega arith in rw q at (skip 1 s p (p + k) o (omega arith) (other s (p + k) e))

pub onto : {s : List ℕ} {p q r : ℕ} → Onward s p q → Onward s q r → Onward s p r
onto a b = record { ends = b.ends ∙ a.ends }

pub at-feed : (s : List ℕ) (p q : ℕ) → Onward s p q → q < length s → get_or s q 0 ≡ line_feed → q + 1 ≡ line_end s p
unfolding line_end
at-feed s p q o h e = ap (λ (n : ℕ). q + n) (sym (length-feed s q h e)) ∙ o.ends

pub at-end : (s : List ℕ) (p q : ℕ) → Onward s p q → length s ≤ q → q ≡ line_end s p
unfolding line_end
at-end s p q o h = omega (arith, length_none s q h, o.ends)

-- ---- the first line, and the others
first-line : (s : List ℕ) → 0 < length s → lines s ≡ take (first_length s) s ∷ lines (drop (first_length s) s)
unfolding lines first_length
first-line [] h = absurd (omega arith)
first-line (b ∷ []) h = go (eqb b line_feed)
  where
    go : (t : Bool) → pick t ((b ∷ []) ∷ []) ((b ∷ []) ∷ []) ≡ take (pick t 1 1) (b ∷ []) ∷ lines (drop (pick t 1 1) (b ∷ []))
    go true = refl
    go false = refl
first-line (b ∷ c ∷ s) h = go (eqb b line_feed) (first-line (c ∷ s) (omega arith))
  where
    go : (t : Bool) → lines (c ∷ s) ≡ take (first_length (c ∷ s)) (c ∷ s) ∷ lines (drop (first_length (c ∷ s)) (c ∷ s)) → pick t ((b ∷ []) ∷ lines (c ∷ s)) (front b (lines (c ∷ s))) ≡ take (pick t 1 (suc (first_length (c ∷ s)))) (b ∷ c ∷ s) ∷ lines (drop (pick t 1 (suc (first_length (c ∷ s)))) (b ∷ c ∷ s))
    go true ih = refl
    go false ih = ap (front b) ih

pub first_some : (s : List ℕ) → 0 < length s → 0 < first_length s
unfolding first_length
first_some [] h = absurd (omega arith)
first_some (b ∷ s) h = go (eqb b line_feed)
  where
    go : (t : Bool) → 0 < pick t 1 (suc (first_length s))
    go true = omega arith
    go false = omega arith

pub first_fits : (s : List ℕ) → first_length s ≤ length s
unfolding first_length
first_fits [] = omega arith
first_fits (b ∷ s) = go (eqb b line_feed) (first_fits s)
  where
    go : (t : Bool) → first_length s ≤ length s → pick t 1 (suc (first_length s)) ≤ suc (length s)
    go true h = omega arith
    go false h = omega arith

-- ---- the line that begins at p and ends before e: it is not empty, ends within the input, and the others begin at e
pub record Piece (s : List ℕ) (p e : ℕ) : Type 0 where
  pub some : p < e
  pub inside : e ≤ length s
  pub size : length (take (e - p) (drop p s)) ≡ e - p
  pub others : lines (drop p s) ≡ take (e - p) (drop p s) ∷ lines (drop e s)

pub piece : (s : List ℕ) (p e : ℕ) → e ≡ line_end s p → p < length s → Piece s p e
unfolding line_end
piece s p e q h = record {
  some = omega (arith, first_some (drop p s) left);
  inside = inside;
  size = rw (length-take, length-drop) (omega (arith, inside));
  others = first-line (drop p s) left ∙ rw (w, q, ← drop-drop (first_length (drop p s)) p s);
}
  where
    left : 0 < length (drop p s)
    left = simp length-drop (omega arith)

    inside : e ≤ length s
    inside = omega (arith, first_fits (drop p s), length-drop p s)

    w : e - p ≡ first_length (drop p s)
    w = omega arith

-- all from p on
pub rest : (s : List ℕ) (p : ℕ) → take (length s - p) (drop p s) ≡ drop p s
rest s p = take_all (length s - p) (drop p s) (omega (arith, length-drop p s))

-- ---- the line that begins at p
pub line-inside : (s : List ℕ) (p e : ℕ) → e ≡ line_end s p → p ≤ length s → (p ≤ e) × (e ≤ length s)
unfolding line_end
line-inside s p e q h = (omega arith, omega (arith, first_fits (drop p s), length-drop p s))

pub line-at : (s : List ℕ) (p e : ℕ) → e ≡ line_end s p → take (e - p) (drop p s) ≡ line_at s p
unfolding line_end line_at
line-at s p e q = let w : e - p ≡ first_length (drop p s) = omega arith in ap (λ (n : ℕ). take n (drop p s)) w

-- by its length
pub line_of : (s : List ℕ) (p n : ℕ) → n ≡ first_length (drop p s) → (take n (drop p s) ≡ line_at s p) × (p + n ≡ line_end s p)
unfolding line_end line_at
line_of s p n q = (ap (λ (k : ℕ). take k (drop p s)) q, ap (λ (k : ℕ). p + k) q)

-- all there is, where it ends at the end
pub line-whole : (s : List ℕ) → line_end s 0 ≡ length s → line_at s 0 ≡ s
unfolding line_at
line-whole s e = take_all (first_length s) s (omega (arith, first-end s))

-- there is none past the end
pub line-past : (s : List ℕ) (p : ℕ) → length s ≤ p → ([] ≡ line_at s p) × (p ≡ line_end s p)
unfolding line_end line_at
line-past s p h = (sym (rw (length_none s p h)), omega (arith, length_none s p h))

-- how many bytes the lines have together: as many as the input
abbrev pub total : List (List ℕ) → ℕ
total [] = 0
total (l ∷ ls) = length l + total ls

total-front : (b : ℕ) (ls : List (List ℕ)) → total (front b ls) ≡ suc (total ls)
total-front b [] = refl
total-front b (l ∷ ls) = omega arith

pub total-lines : (s : List ℕ) → total (lines s) ≡ length s
unfolding lines
total-lines [] = refl
total-lines (b ∷ s) = go (eqb b line_feed) (total-lines s)
  where
    go : (t : Bool) → total (lines s) ≡ length s → total (pick t ((b ∷ []) ∷ lines s) (front b (lines s))) ≡ suc (length s)
    go true h = omega arith
    go false h = omega (arith, total-front b (lines s))

-- at most as many lines as bytes
pub count-lines : (s : List ℕ) → length (lines s) ≤ length s
unfolding lines
count-lines [] = omega arith
count-lines (b ∷ s) = go (eqb b line_feed) (lines s) (count-lines s)
  where
    go : (t : Bool) (ls : List (List ℕ)) → length ls ≤ length s → length (pick t ((b ∷ []) ∷ ls) (front b ls)) ≤ suc (length s)
    go true ls h = omega (arith, h)
    go false [] h = omega arith
    go false (l ∷ ls) h = omega (arith, h)

-- past the end there are none
pub lines_none : (s : List ℕ) (p : ℕ) → length s ≤ p → lines (drop p s) ≡ []
unfolding lines
lines_none s p h = rw (drop_of_length-le s h)

-- every line has a byte
abbrev pub Some : List (List ℕ) → Type 0
Some [] = Unit {0}
Some (l ∷ ls) = (0 < length l) × Some ls

some-front : (b : ℕ) (ls : List (List ℕ)) → Some ls → Some (front b ls)
some-front b [] h = (omega arith, tt)
some-front b (l ∷ ls) h = (omega arith, h.1)

pub some-lines : (s : List ℕ) → Some (lines s)
unfolding lines
some-lines [] = tt
some-lines (b ∷ s) = go (eqb b line_feed) (some-lines s)
  where
    go : (t : Bool) → Some (lines s) → Some (pick t ((b ∷ []) ∷ lines s) (front b (lines s)))
    go true h = (omega arith, h)
    go false h = some-front b (lines s) h
