-- The room for what a program prints: a law of its replies. Where each line is replied within 13 bytes for each of its own, the whole input is. Assumes nothing.
use Prim.Native.Nat.{ℕ, ◌+◌, ◌*◌, ◌≤◌, ◌<◌}
use mathlib.Core.Path.{◌≡◌, refl, sym, ap, ◌∙◌}
use mathlib.Core.Bool.{Bool, true, false}
use mathlib.Core.List.{List, [], ◌∷◌, ◌++◌}
use lib.Dec.{ltb}
use lib.ListN.{length, take, drop, length-append, length-take}
use lib.Seq.{sets-eq}
use native.Mathlib.Decide.{dec_lt}
use native.Mathlib.Omega.{arith}
use borrow.Author.Tests.{ltb-true, ltb-false}
use Rattle.refusal.specs.Numbers as refusal
use Rattle.refusal.specs.Order.{pick}
use Rattle.line.specs.Fields.{longest_line}
use Rattle.line.specs.Lines.{lines}
use Rattle.line.specs.Text.{Wrote, refusal_text}
use Rattle.line.proofs.Lines.{total, total-lines, Some, some-lines}
use Rattle.line.proofs.Lengths.{length-refusal}
use Rattle.listing.specs.Fold.{Rules, run, longest_input, short_input, printed, room_for, Prints}

-- a refusal fits wherever a line has a byte and a number of at most five digits: in a line of one byte a place has one digit, and two bytes have room for three
pub refusal-fits : (l : List ℕ) (line n place : ℕ) → 0 < length l → line < 100000 → n < 100 → place ≤ length l → place ≤ longest_line → length (refusal_text line n place) ≤ 13 * length l
refusal-fits l line n place some few h inside low = go (dec_lt place 10)
  where
    go : Dec (place < 10) → length (refusal_text line n place) ≤ 13 * length l
    go (yes d) = omega (arith, length-refusal line n place 0 few h (omega arith))
    go (no d) = omega (arith, length-refusal line n place 2 few h (omega arith))

-- the largest room is enough for any input, and the short one for a short input
pub any-fits : (n : ℕ) → room_for n ≤ 851977
unfolding room_for
any-fits n = omega arith

pub short-fits : (n : ℕ) → n ≤ short_input → room_for n ≤ 53257
unfolding room_for
short-fits n h = omega arith

-- a program that counts its lines, and replies to each within the line's room
pub record Roomy {S R : Type 0} (r : Rules S R) (number : S → ℕ) : Type 0 where
  pub counts : (s : S) (l : List ℕ) → number (r.next s l) ≡ number s + 1
  pub short : (s : S) (l : List ℕ) → 0 < length l → number s < 100000 → length (r.text (r.reply s l)) ≤ 13 * length l

module _ {S R : Type 0} {r : Rules S R} {number : S → ℕ} (roomy : Roomy r number) where
  run_short : (ls : List (List ℕ)) → Some ls → (s : S) → number s + total ls < 100000 → length (run r s ls) ≤ 13 * total ls
  unfolding run
  run_short [] h s n = omega arith
  run_short (l ∷ ls) h s n =
      let a = roomy.short s l h.0 (omega arith) in
      let b = run_short ls h.1 (r.next s l) (omega (arith, h.0, roomy.counts s l)) in
      omega (arith, length-append (r.text (r.reply s l)) (run r (r.next s l) ls))

  pub printed-fits : (s : S) → number s ≡ 1 → (input : List ℕ) → length (printed r s input) ≤ room_for (length input)
  unfolding printed room_for
  printed-fits s n input = go (ltb longest_input (length input)) refl
    where
      go : (b : Bool) → ltb longest_input (length input) ≡ b → length (pick b (refusal_text 0 refusal.long 0) (run r s (lines input))) ≤ room_for (length input)
      go true e = omega (arith, length-refusal 0 refusal.long 0 0 (omega arith) (omega arith) (omega arith), ltb-true longest_input (length input) e)
      go false e =
          let m = ltb-false longest_input (length input) e in
          let t = total-lines input in
          omega (arith, run_short (lines input) (some-lines input) s (omega arith))

  -- what is written from the start fits the room that the input asks for
  pub prints : {s : S} {input before after : List ℕ} {t : ℕ} → number s ≡ 1 → Wrote before 0 (printed r s input) after t → Prints (printed r s input) input before after t
  prints {s} {input} {before} {after} {t} n w = record { whole = whole; cut = w }
    where
      text : List ℕ
      text = printed r s input

      whole : room_for (length input) ≤ length before → (t ≡ length text) × (after ≡ text ++ drop (length text) before)
      whole h =
          let e : 0 + length text ≡ length text = omega arith in
          let f = printed-fits s n input in
          (omega (arith, w.place), w.list ∙ sets-eq text before 0 (omega arith) ∙ ap (λ (k : ℕ). text ++ drop k before) e)

-- ---- with the room that the input asks for, the text is there whole, and is the part of the array before r
take-front : (a b : List ℕ) → take (length a) (a ++ b) ≡ a
take-front [] b = refl
take-front (x ∷ a) b = ap (λ (l : List ℕ). x ∷ l) (take-front a b)

pub whole-text : {text input before after : List ℕ} {r : ℕ} → room_for (length input) ≤ length before → Prints text input before after r → (r ≤ length after) × (take r after ≡ text)
whole-text {text} {input} {before} {after} {r} h p =
    let w = p.whole h in
    let b = ap (λ (k : ℕ). take k after) w.0 ∙ ap (take (length text)) w.1 ∙ take-front text (drop (length text) before) in
    (omega (arith, w.0, ap length b, length-take r after), b)
