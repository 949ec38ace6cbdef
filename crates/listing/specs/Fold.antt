-- A program answers its input line by line, with a state carried from line to line: it replies to each line, and what it prints is the replies one after the
-- other.
use Rattle.std.specs.Prelude.{ℕ, ◌+◌, ◌*◌, ◌≤◌, min, ◌≡◌, List, [], ◌∷◌, ◌++◌, eqb, ltb, length, get_or, take, drop, replicate}
use Rattle.refusal.specs.Numbers as refusal
use Rattle.refusal.specs.Order.{pick}
use Rattle.line.specs.Lines.{lines}
use Rattle.line.specs.Text.{refusal_text, Wrote}

-- the rules of a program with states S and replies R: the reply to a line in a state, the state after the line, and how a reply is printed
pub record Rules (S R : Type 0) : Type 0 where
  pub reply : S → List ℕ → R
  pub next : S → List ℕ → S
  pub text : R → List ℕ

unfoldable pub run : {S R : Type 0} → Rules S R → S → List (List ℕ) → List ℕ
run r s [] = []
run r s (l ∷ ls) = r.text (r.reply s l) ++ run r (r.next s l) ls

-- a whole input, of at most so many bytes; more prints only R, 0, 15, 0
abbrev pub longest_input : ℕ
longest_input = 65536

unfoldable pub printed : {S R : Type 0} → Rules S R → S → List ℕ → List ℕ
printed r s input = pick (ltb longest_input (length input)) (refusal_text 0 refusal.long 0) (run r s (lines input))

-- the room that an input of n bytes asks for: 13 bytes for each byte, up to the longest input, and 9
unfoldable pub room_for : ℕ → ℕ
room_for n = 13 * min n longest_input + 9

-- the length up to which an input is answered in a room of its own
abbrev pub short_input : ℕ
short_input = 4096

-- room for n bytes, nothing written in it
unfoldable pub cleared : ℕ → List ℕ
cleared n = replicate n 0

-- what a call that prints does: the array held `before` and holds `after`, and r is the place past the text
pub record Prints (text input before after : List ℕ) (r : ℕ) : Type 0 where
  -- with the room that the input asks for: the array begins with the whole text, and everything past it is untouched
  pub whole : room_for (length input) ≤ length before → (r ≡ length text) × (after ≡ text ++ drop (length text) before)
  -- with any room: as much of the text as there is room for
  pub cut : Wrote before 0 text after r

-- a program reads lines of two letters, told by their first byte
abbrev pub by_letter : {A : Type 0} → ℕ → ℕ → List ℕ → A → A → A → A
by_letter one other line a b neither = pick (eqb (get_or line 0 0) one) a (pick (eqb (get_or line 0 0) other) b neither)

-- or of three
abbrev pub by_letters : {A : Type 0} → ℕ → ℕ → ℕ → List ℕ → A → A → A → A → A
by_letters one other third line a b c none = by_letter one other line a b (pick (eqb (get_or line 0 0) third) c none)
