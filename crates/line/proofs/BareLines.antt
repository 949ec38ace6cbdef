-- Bare line feeds in a row, and their refusals. Assumes nothing.
use Rattle.std.proofs.Common.{◌≡◌, ℕ, zero, suc, ◌+◌, ◌-◌, ◌/◌, ◌%◌, ◌<◌, ◌≤◌, List, [], ◌∷◌, ◌++◌, length, get_or, drop, sym, refl, ap, ◌∙◌, subst, append-nil, add-one, arith, drop-cons}
use native.Mathlib.Decide.{dec_lt}
use Rattle.refusal.specs.Numbers as refusal
use Rattle.line.specs.declared.Feeds.{Feeds}
use Rattle.line.specs.Bytes.{line_feed}
use Rattle.line.specs.Fields.{body, fields}
use Rattle.line.specs.Malformed.{fault_of, fields_fault, offending}
use Rattle.line.specs.Readers.{strange_fault}
use Rattle.line.specs.Lines.{lines}
use Rattle.line.specs.Text.{decimal, refusal_text, Wrote, two}
use Rattle.line.specs.BareLines.{Feed, feeds_text, AnswersFeeds, Passes}
use Rattle.line.proofs.Texts as T

-- ---- one more in a row, and what stops the row
pub one_more : {s : List ℕ} {q : ℕ} (p : ℕ) → ((i : ℕ) → p + i < q → Feed s (p + i)) → Feed s q → (i : ℕ) → p + i < q + 1 → Feed s (p + i)
one_more {s} {q} p each f i h = go (dec_lt (p + i) q)
  where
    go : Dec (p + i < q) → Feed s (p + i)
    go (yes l) = each i l
    go (no l) = let e : q ≡ p + i = omega arith in subst (Feed s) e f

pub not_first : {s : List ℕ} {p q : ℕ} → p ≤ q → (get_or s q 0 ≡ line_feed → ⊥) → Feed s p → p < q
not_first {s} {p} {q} h n f = go (dec_lt p q)
  where
    go : Dec (p < q) → p < q
    go (yes l) = l
    go (no l) = let e : q ≡ p = omega arith in absurd (n (ap (λ (k : ℕ). get_or s k 0) e ∙ f.byte))

pub only : {s : List ℕ} {p : ℕ} → Feed s p → (i : ℕ) → i < 1 → Feed s (p + i)
only {s} {p} f i h = let e : p ≡ p + i = omega arith in subst (Feed s) e f

-- ---- each is a line, and the row ends within the input
pub feed-line : (s : List ℕ) (p : ℕ) → Feed s p → lines (drop p s) ≡ (line_feed ∷ []) ∷ lines (drop (p + 1) s)
unfolding lines
feed-line s p f = rw (drop-cons s p 0 f.inside, f.byte, add-one)

pub row_inside : (k : ℕ) (s : List ℕ) (p : ℕ) → p ≤ length s → ((i : ℕ) → i < k → Feed s (p + i)) → p + k ≤ length s
row_inside zero s p h each = omega arith
row_inside (suc k) s p h each = omega (arith, (each k (omega arith)).inside)

-- a program that knows no such line finds no letter in it
pub feed-fault : strange_fault (line_feed ∷ []) ≡ record { number = refusal.letter; place = 0 }
unfolding fault_of body fields_fault offending fields
feed-fault = refl

-- ---- their refusals, one after the other
pub feeds-none : (k n : ℕ) → k ≡ 0 → feeds_text k n ≡ []
unfolding feeds_text
feeds-none zero n e = refl
feeds-none (suc k) n e = absurd (omega arith)

pub feeds-on : (k n j m : ℕ) → 0 < k → j ≡ k - 1 → m ≡ n + 1 → feeds_text k n ≡ refusal_text n refusal.letter 0 ++ feeds_text j m
unfolding feeds_text
feeds-on zero n j m h e f = absurd (omega arith)
feeds-on (suc k) n j m h e f =
    let w : j ≡ k = omega arith in
    rw (w, f)

pub feeds-one : (n : ℕ) → refusal_text n refusal.letter 0 ≡ feeds_text 1 n
unfolding feeds_text
feeds-one n = sym (append-nil (refusal_text n refusal.letter 0))

-- ---- a number of five digits: two, two and the last
pub five-text : (n high low last : ℕ) → 10000 ≤ n → n < 100000 → high ≡ n / 1000 → low ≡ n / 10 % 100 → last ≡ 48 + n % 10
    → (82 ∷ 9 ∷ []) ++ (two high ++ (two low ++ ((last ∷ []) ++ (9 ∷ 49 ∷ 57 ∷ 9 ∷ 48 ∷ 10 ∷ [])))) ≡ refusal_text n refusal.letter 0
five-text n high low last a b e f g = ap (λ (t : List ℕ). 82 ∷ 9 ∷ t) (digits ∙ ends) ∙ T.refusal_is n refusal.letter 0
  where
    rest : List ℕ
    rest = 9 ∷ 49 ∷ 57 ∷ 9 ∷ 48 ∷ 10 ∷ []

    digits : two high ++ (two low ++ (last ∷ rest)) ≡ decimal n ++ rest
    digits =
        ap (λ (t : List ℕ). t ++ (two low ++ (last ∷ rest))) (T.two_is high (omega arith) (omega arith))
        ∙ rw g (T.pair-on high (n / 10) low ((48 + n % 10) ∷ rest) (omega arith) f (omega arith) ∙ T.digit-on (n / 10) n (n % 10) rest refl refl (omega arith))

    ends : decimal n ++ rest ≡ decimal n ++ ((9 ∷ []) ++ (decimal refusal.letter ++ ((9 ∷ []) ++ (decimal 0 ++ (10 ∷ [])))))
    ends = rw (sym (T.two_is 19 (omega arith) (omega arith)), T.decimal-one 0 (omega arith))

-- of some lines within one ten, so many are left: the next one, and those after it
pub ten-on : (line lines left last : ℕ) → 10000 ≤ line → line < 100000 → line % 10 + lines ≤ 10 → 0 < left → left ≤ lines → last ≡ 48 + line % 10 + (lines - left)
    → ((82 ∷ 9 ∷ []) ++ (two (line / 1000) ++ (two (line / 10 % 100) ++ ((last ∷ []) ++ (9 ∷ 49 ∷ 57 ∷ 9 ∷ 48 ∷ 10 ∷ [])))))
    ++ feeds_text (left - 1) (line + (lines - (left - 1)))
    ≡ feeds_text left (line + (lines - left))
ten-on line lines left last a b h z l e =
    let n = line + (lines - left) in
    ap (λ (t : List ℕ). t ++ feeds_text (left - 1) (line + (lines - (left - 1))))
    (five-text n (line / 1000) (line / 10 % 100) last (omega arith) (omega arith) (omega arith) (omega arith) (omega arith))
    ∙ sym (feeds-on left n (left - 1) (line + (lines - (left - 1))) z refl (omega arith))

-- ---- a whole call
pub fed-ten : {s : List ℕ} {p : ℕ} {l : List ℕ} {at n most q : ℕ} {m : List ℕ} (r : Feeds) → 0 < most → r.lines ≡ q - p → Passes s p most q → Wrote l at (feeds_text r.lines n) m r.at → AnswersFeeds s p l at n m r
fed-ten r h e k w = record {
  some = λ f. omega (arith, k.some h f);
  each = λ i j. k.each i (omega arith);
  wrote = w;
}
