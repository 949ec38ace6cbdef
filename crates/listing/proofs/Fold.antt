-- The laws of a program's run over the lines of its input. Assumes nothing.
use Prim.Native.Nat.{ℕ, zero, suc, ◌+◌, ◌-◌, ◌≤◌, ◌<◌}
use mathlib.Core.Path.{◌≡◌, refl, sym, subst, ◌∙◌}
use mathlib.Core.Bool.{Bool, true, false}
use mathlib.Core.List.{List, [], ◌∷◌, ◌++◌, append_assoc}
use lib.Dec.{eqb}
use lib.ListN.{length, get_or, take, drop}
use native.Mathlib.Nat.{add-zero}
use native.Mathlib.Omega.{arith}
use borrow.Author.Tests.{lt-ltb, le-ltb}
use Rattle.refusal.specs.Numbers as refusal
use Rattle.refusal.specs.Order.{pick}
use Rattle.line.specs.Bytes.{line_feed}
use Rattle.line.specs.Lines.{lines, line_end}
use Rattle.line.specs.BareLines.{Feed, feeds_text}
use Rattle.line.proofs.BareLines.{feed-line, feeds-none, feeds-on}
use Rattle.line.specs.Text.{Wrote, refusal_text}
use Rattle.line.proofs.Lines.{piece, lines_none}
use Rattle.line.proofs.Texts.{«then», nothing}
use Rattle.listing.specs.Fold.{Rules, run, longest_input, printed, by_letter, by_letters}

-- ---- a whole input: one that is too long, and any other
module _ {S R : Type 0} (r : Rules S R) (s : S) (input : List ℕ) where
  pub printed-long : longest_input < length input → printed r s input ≡ refusal_text 0 refusal.long 0
  unfolding printed
  printed-long h = rw (lt-ltb longest_input (length input) h)

  pub printed-lines : length input ≤ longest_input → printed r s input ≡ run r s (lines input)
  unfolding printed
  printed-lines h = rw (le-ltb longest_input (length input) h)

-- ---- once what is left from byte p on is written, the whole is
pub Left : {S R : Type 0} → Rules S R → S → List ℕ → List ℕ → S → ℕ → List ℕ → ℕ → Type 0
Left r s₀ input out₀ s p out o = (m : List ℕ) (t : ℕ) → Wrote out o (run r s (lines (drop p input))) m t → Wrote out₀ 0 (run r s₀ (lines input)) m t

module _ {S R : Type 0} (r : Rules S R) (s₀ : S) (input out₀ : List ℕ) where
  pub left-all : Left r s₀ input out₀ s₀ 0 out₀ 0
  unfolding Left
  left-all m t w = w

  pub left-turn : (p e : ℕ) (s : S) (out out' : List ℕ) (o o' : ℕ) → e ≡ line_end input p → p < length input → Wrote out o (r.text (r.reply s (take (e - p) (drop p input)))) out' o' → Left r s₀ input out₀ s p out o → Left r s₀ input out₀ (r.next s (take (e - p) (drop p input))) e out' o'
  unfolding run Left
  left-turn p e s out out' o o' q h w l m t v = l m t (rw (piece input p e q h).others («then» w v))

  pub left-none : (p : ℕ) (s : S) (out : List ℕ) (o : ℕ) → length input ≤ p → Left r s₀ input out₀ s p out o → Wrote out₀ 0 (run r s₀ (lines input)) out o
  unfolding run Left
  left-none p s out o h l = l out o (rw (lines_none input p h) (nothing out o))

-- ---- bare line feeds, several at once
-- the state after k of them
unfoldable pub after_feeds : {S R : Type 0} → Rules S R → ℕ → S → S
after_feeds r zero s = s
after_feeds r (suc k) s = after_feeds r k (r.next s (line_feed ∷ []))

-- what each of them adds, k of them add
pub after-feeds : {S R : Type 0} (r : Rules S R) (by : ℕ → S → S) → ((s : S) → by 0 s ≡ s) → ((k : ℕ) (s : S) → by (suc k) s ≡ by k (r.next s (line_feed ∷ []))) → (k : ℕ) (s : S) → after_feeds r k s ≡ by k s
unfolding after_feeds
after-feeds r by none one zero s = sym (none s)
after-feeds r by none one (suc k) s = after-feeds r by none one k (r.next s (line_feed ∷ [])) ∙ sym (one k s)

-- a program that knows no such line: it refuses each by its letter, and counts it
pub record Bare {S R : Type 0} (r : Rules S R) (number : S → ℕ) : Type 0 where
  pub refused : (s : S) → r.text (r.reply s (line_feed ∷ [])) ≡ refusal_text (number s) refusal.letter 0
  pub counted : (s : S) → number (r.next s (line_feed ∷ [])) ≡ number s + 1

module _ {S R : Type 0} {r : Rules S R} {number : S → ℕ} (bare : Bare r number) where
  run-feeds : (k p : ℕ) (s : S) (input : List ℕ) → ((i : ℕ) → i < k → Feed input (p + i)) → run r s (lines (drop p input)) ≡ feeds_text k (number s) ++ run r (after_feeds r k s) (lines (drop (p + k) input))
  unfolding run after_feeds
  run-feeds zero p s input each = rw (add-zero, feeds-none 0 (number s) refl)
  run-feeds (suc k) p s input each =
      let first : Feed input p = subst (Feed input) (add-zero p) (each 0 (omega arith)) in
      let e : p + suc k ≡ p + 1 + k = omega arith in
      let others = run-feeds k (p + 1) (r.next s (line_feed ∷ [])) input (λ i h. let f : p + suc i ≡ p + 1 + i = omega arith in subst (Feed input) f (each (suc i) (omega arith))) in
      rw (feed-line input p first, bare.refused s, others, bare.counted s, e, feeds-on (suc k) (number s) k (number s + 1) (omega arith) (omega arith) refl) (sym (append_assoc (refusal_text (number s) refusal.letter 0) (feeds_text k (number s + 1)) _))

  pub feeds-counted : (k : ℕ) (s : S) → number (after_feeds r k s) ≡ number s + k
  unfolding after_feeds
  feeds-counted zero s = omega arith
  feeds-counted (suc k) s = omega (arith, feeds-counted k (r.next s (line_feed ∷ [])), bare.counted s)

  pub left-feeds : (s₀ : S) (input out₀ : List ℕ) (k p : ℕ) (s : S) (out out' : List ℕ) (o o' : ℕ) → ((i : ℕ) → i < k → Feed input (p + i)) → Wrote out o (feeds_text k (number s)) out' o' → Left r s₀ input out₀ s p out o → Left r s₀ input out₀ (after_feeds r k s) (p + k) out' o'
  unfolding Left
  left-feeds s₀ input out₀ k p s out out' o o' each w l m t v = l m t (rw (run-feeds k p s input each) («then» w v))

-- ---- whatever holds of the three holds of what a line's letter decides
pub by-letter : {A : Type 0} (P : A → Type 0) (one other : ℕ) (line : List ℕ) (a b neither : A) → P a → P b → P neither → P (by_letter one other line a b neither)
by-letter P one other line a b neither x y z = go (eqb (get_or line 0 0) one) (eqb (get_or line 0 0) other)
  where
    go : (t u : Bool) → P (pick t a (pick u b neither))
    go true u = x
    go false true = y
    go false false = z

pub by-letters : {A : Type 0} (P : A → Type 0) (one other third : ℕ) (line : List ℕ) (a b c none : A) → P a → P b → P c → P none → P (by_letters one other third line a b c none)
by-letters P one other third line a b c none x y z w = by-letter P one other line a b _ x y (go (eqb (get_or line 0 0) third))
  where
    go : (t : Bool) → P (pick t c none)
    go true = z
    go false = w
