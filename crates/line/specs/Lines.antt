-- The lines of an input, of whatever bytes. A line ends with its line feed, byte 10; a last piece with none is a line of its own, and nothing follows a final line feed.
use Rattle.std.specs.Prelude.{◌≡◌, ℕ, suc, ◌+◌, ◌<◌, List, [], ◌∷◌, take, drop, ◌==◌, ◌≢◌, slice_index}
use Rattle.refusal.specs.Order.{pick}
use Rattle.line.specs.Bytes.{line_feed}
use Rattle.line.specs.Fields.{front}

-- the lines, each with its line feed; the last may lack it
unfoldable pub lines : List ℕ → List (List ℕ)
lines [] = []
lines (b ∷ s) = pick (b == line_feed) ((b ∷ []) ∷ lines s) (front b (lines s))

-- how many bytes the first line has, with its line feed
unfoldable pub first_length : List ℕ → ℕ
first_length [] = 0
first_length (b ∷ s) = pick (b == line_feed) 1 (suc (first_length s))

-- where the line that begins at `from` ends
unfoldable pub line_end : List ℕ → ℕ → ℕ
line_end s from = from + first_length (drop from s)

-- the line that begins at `from`, with its line feed; nothing past the end
unfoldable pub line_at : List ℕ → ℕ → List ℕ
line_at s from = take (first_length (drop from s)) (drop from s)

-- ---- how the code passes bytes several at a time

-- no line feed among the k bytes from place p on
pub record Clear (k : ℕ) (s : List ℕ) (p : ℕ) : Type 0 where
  pub none : (i : ℕ) → i < k → slice_index s (p + i) ≢ line_feed

-- the line that begins at p, or goes on at q, ends at one place
pub record Onward (s : List ℕ) (p q : ℕ) : Type 0 where
  pub ends : line_end s q ≡ line_end s p
