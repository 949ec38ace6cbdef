-- Bare line feeds in a row, and what they are answered where their program knows no such line.
use Rattle.std.specs.Prelude.{◌≡◌, ℕ, zero, suc, ◌+◌, ◌<◌, ◌≤◌, List, [], ◌++◌, length, slice_index_or}
use Rattle.refusal.specs.Numbers as refusal
use Rattle.line.specs.declared.Feeds.{Feeds}
use Rattle.line.specs.Bytes.{line_feed}
use Rattle.line.specs.Text.{refusal_text, Wrote}

-- a line feed stands at place p
pub record Feed (s : List ℕ) (p : ℕ) : Type 0 where
  pub inside : p < length s
  pub byte : slice_index_or s p 0 ≡ line_feed

-- the refusals of k such lines, the first of which has the number n
unfoldable pub feeds_text : ℕ → ℕ → List ℕ
feeds_text zero n = []
feeds_text (suc k) n = refusal_text n refusal.letter 0 ++ feeds_text k (n + 1)

-- what a call that answers them does: so many stand from place p on, at least one if any does, and their refusals are written
pub record AnswersFeeds (s : List ℕ) (p : ℕ) (l : List ℕ) (at n : ℕ) (m : List ℕ) (r : Feeds) : Type 0 where
  pub some : Feed s p → 0 < r.lines
  pub each : (i : ℕ) → i < r.lines → Feed s (p + i)
  pub wrote : Wrote l at (feeds_text r.lines n) m r.at

-- ---- how the code finds them: q is the place past line feeds from p on, at most `most` of them
pub record Passes (s : List ℕ) (p most q : ℕ) : Type 0 where
  pub from : p ≤ q
  pub few : q ≤ p + most
  pub each : (i : ℕ) → p + i < q → Feed s (p + i)
  pub some : 0 < most → Feed s p → p < q

-- r is where `most` bytes from p on end, or n before that
pub record Sooner (n p most r : ℕ) : Type 0 where
  pub inside : r ≤ n
  pub few : p < r → r ≤ p + most
  pub some : 0 < most → p < n → p < r
