-- A whole sheet by calls, however it was cut, and in one run.
use Rattle.std.specs.Prelude.{ℕ, zero, suc, List, [], ◌∷◌, ◌++◌, eqb, length, take, drop, Some, None, Ok, Err}
use Rattle.refusal.specs.Order.{pick}
use Rattle.line.specs.Bytes.{line_feed}
use Rattle.sheet_rules.specs.declared.Reply.{Reply}
use Rattle.sheet_rules.specs.Sheet.{Sheet, reply_text, reply_of, next_of}
use Rattle.sheet_stream.specs.declared.Stream.{Stream}
use Rattle.sheet_stream.specs.Fragments.{Outcome, keep, ended, end_reply, feed_of, finish_of}

-- the answers so far, one for each line ended, and the state
pub record SoFar : Type 0 where
  pub replies : List Reply
  pub state : Stream

abbrev pub so_far : List Reply → Stream → SoFar
so_far rs s = record { replies = rs; state = s }

abbrev pub after : List Reply → SoFar → SoFar
after rs t = so_far (rs ++ t.replies) t.state

abbrev pub said_by : Outcome → List Reply
said_by (Ok None) = []
said_by (Ok (Some r)) = r ∷ []
said_by (Err refused) = []

-- a caller hands a fragment on until all of it is taken: n calls, each with what the one before left
unfoldable pub calls : ℕ → Stream → List ℕ → SoFar
calls zero s f = so_far [] s
calls (suc n) s f = after (said_by (feed_of s f).outcome) (calls n (feed_of s f).stream (drop (feed_of s f).taken f))

-- fragment by fragment; a call takes a byte at least, so that as many calls as bytes take all
unfoldable pub deliver : Stream → List (List ℕ) → SoFar
deliver s [] = so_far [] s
deliver s (f ∷ fs) = after (calls (length f) s f).replies (deliver (calls (length f) s f).state fs)

abbrev pub joined : List (List ℕ) → List ℕ
joined [] = []
joined (f ∷ fs) = f ++ joined fs

-- any caller at all: each call gets whatever fragment the caller likes; the text is what the calls took, one after the other
pub data AnyCalls : Stream → List ℕ → List Reply → Stream → Type 0 where
  done : {s : Stream} → AnyCalls s [] [] s
  call :
      {s s' : Stream} {rest : List ℕ} {rs : List Reply} (f : List ℕ) →
      AnyCalls (feed_of s f).stream rest rs s' →
      AnyCalls s (take (feed_of s f).taken f ++ rest) (said_by (feed_of s f).outcome ++ rs) s'

-- byte by byte: what the calls come to, whatever the cuts
unfoldable pub bytes : Stream → List ℕ → SoFar
bytes s [] = so_far [] s
bytes s (b ∷ f) = pick (eqb b line_feed) (after (end_reply s ∷ []) (bytes (ended s) f)) (bytes (keep s b) f)

-- and the finish
unfoldable pub finished : SoFar → SoFar
finished t = after t.replies (so_far (said_by (finish_of t.state).outcome) (finish_of t.state).stream)

-- ---- in one run, by the sheet's rules alone: each line in order
unfoldable pub rules_run : Sheet → List (List ℕ) → List Reply
rules_run s [] = []
rules_run s (l ∷ ls) = reply_of s l ∷ rules_run (next_of s l) ls

unfoldable pub rules_last : Sheet → List (List ℕ) → Sheet
rules_last s [] = s
rules_last s (l ∷ ls) = rules_last (next_of s l) ls

-- what answers print, one after the other
unfoldable pub texts : List Reply → List ℕ
texts [] = []
texts (r ∷ rs) = reply_text r ++ texts rs
