-- The room for what a pile prints: at most 15 bytes for each of its own. Assumes nothing.
use Prim.Native.Nat.{ℕ, suc, ◌+◌, ◌*◌, ◌^◌, ◌≤◌, ◌<◌}
use mathlib.Core.Path.{◌≡◌, refl, sym}
use mathlib.Core.Bool.{Bool, true, false}
use mathlib.Core.List.{List, [], ◌∷◌}
use native.Mathlib.Decide.{dec_lt}
use native.Mathlib.Omega.{arith}
use lib.Dec.{eqb, ltb}
use lib.ListN.{length, length-append}
use borrow.Author.Tests.{ltb-true, ltb-false}
use Rattle.refusal.specs.Numbers as refusal
use Rattle.refusal.specs.Order.{pick}
use Rattle.chain.specs.Faults.{latest}
use Rattle.chain.specs.declared.Point.{Point}
use Rattle.line.specs.Answers.{Line}
use Rattle.line.specs.Answers as P
use Rattle.line.specs.Fields.{longest_line}
use Rattle.line.specs.Lines.{lines}
use Rattle.line.specs.Text.{refusal_text}
use Rattle.line.proofs.Lines.{total, total-lines, Some, some-lines}
use Rattle.line.proofs.Lengths.{length-decimal}
use Rattle.line.proofs.Texts.{refusal_is}
use Rattle.line.proofs.Readers.{point-outcome}
use Rattle.latest.specs.Pile.{any_bad, good_text, line_text, verdict_in, reply_of, replies_from, longest_pile, latest_of}
use Rattle.latest.specs.Call.{room_for}

-- a refusal under a number of at most seven digits
refusal-length : (line number place k : ℕ) → line < 10000000 → number < 100 → place < 10 ^ suc k → length (refusal_text line number place) ≤ 14 + suc k
refusal-length line number place k h i j =
    rw (sym (refusal_is line number place)) (simp length-append (omega (arith, length-decimal 6 line h, length-decimal 1 number i, length-decimal k place j)))

-- in a line of one byte a place has one digit, and two bytes have room for three
refusal-fits : (l : List ℕ) (line n place : ℕ) → 0 < length l → line < 10000000 → n < 100 → place ≤ length l → place ≤ longest_line → length (refusal_text line n place) ≤ 15 * length l
refusal-fits l line n place some few h inside low = go (dec_lt place 10)
  where
    go : Dec (place < 10) → length (refusal_text line n place) ≤ 15 * length l
    go (yes d) = omega (arith, refusal-length line n place 0 few h (omega arith))
    go (no d) = omega (arith, refusal-length line n place 2 few h (omega arith))

good-fits : (stop : Bool) (line v : ℕ) (l : List ℕ) → 0 < length l → line < 10000000 → length (good_text stop line v l) ≤ 15 * length l
good-fits stop line v l some few = go (eqb v refusal.same) (eqb v 1) stop
  where
    go : (a b c : Bool) → length (pick a (refusal_text line refusal.same 0) (pick b (pick c [] l) [])) ≤ 15 * length l
    go true b c = refusal-fits l line refusal.same 0 some few (omega arith) (omega arith) (omega arith)
    go false true true = omega arith
    go false true false = omega arith
    go false false c = omega arith

reply-fits : (ls : List (List ℕ)) (i : ℕ) (l : List ℕ) → 0 < length l → i < 9999999 → length (reply_of ls i l) ≤ 15 * length l
unfolding reply_of
reply-fits ls i l some few =
    point-outcome latest (λ (r : Line Point). length (line_text (any_bad ls) (suc i) (verdict_in ls i l r) l r) ≤ 15 * length l) l
    (λ p f h. good-fits (any_bad ls) (suc i) (verdict_in ls i l (P.Good p)) l some (omega arith))
    (λ f h. refusal-fits l (suc i) f.number f.place some (omega arith) h.number h.inside h.low)
    (λ n h. refusal-fits l (suc i) n 0 some (omega arith) h (omega arith) (omega arith))

replies-fit : (ls : List (List ℕ)) (i : ℕ) (rest : List (List ℕ)) → Some rest → i + total rest < 9999999 → length (replies_from ls i rest) ≤ 15 * total rest
unfolding replies_from
replies-fit ls i [] h n = omega arith
replies-fit ls i (l ∷ rest) h n =
    omega (arith, reply-fits ls i l h.0 (omega (arith, h.0)), replies-fit ls (suc i) rest h.1 (omega (arith, h.0)), length-append (reply_of ls i l) (replies_from ls (suc i) rest))

pub pile-fits : (pile : List ℕ) → length (latest_of pile) ≤ room_for (length pile)
unfolding latest_of room_for
pile-fits pile = go (ltb longest_pile (length pile)) refl
  where
    go : (b : Bool) → ltb longest_pile (length pile) ≡ b → length (pick b (refusal_text 0 refusal.long 0) (replies_from (lines pile) 0 (lines pile))) ≤ room_for (length pile)
    go true e = omega (arith, refusal-length 0 refusal.long 0 0 (omega arith) (omega arith) (omega arith), ltb-true longest_pile (length pile) e)
    go false e =
        let m = ltb-false longest_pile (length pile) e in
        let t = total-lines pile in
        omega (arith, replies-fit (lines pile) 0 (lines pile) (some-lines pile) (omega arith))
