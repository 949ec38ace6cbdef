-- A sheet that arrives in fragments: what a call with a fragment answers, and what the finish does.
use Rattle.std.specs.Prelude.{ℕ, suc, ◌+◌, ◌-◌, ◌≤◌, Bool, true, false, not, ◌&&◌, List, [], ◌∷◌, ◌++◌, eqb, leb, ltb, pos, length, get_or, take, set, replicate, Option, Some, None, Result, Ok, Err}
use Rattle.refusal.specs.declared.Refusal.{Refusal}
use Rattle.refusal.specs.declared.Refusal.TheVariants as refusal
use Rattle.refusal.specs.Order.{pick}
use Rattle.chain.specs.declared.Step.{Step}
use Rattle.chain.specs.declared.Kind.TheVariants.{Frame}
use Rattle.line.specs.Bytes.{line_feed}
use Rattle.line.specs.Fields.{longest_line}
use Rattle.sheet_rules.specs.declared.Reply.{Reply}
use Rattle.sheet_rules.specs.declared.Standing.{Standing}
use Rattle.sheet_rules.specs.Sheet.{reply_text}
use Rattle.sheet_rules.specs.OneLine.{most_lines, fresh_at, sound_standing, reply_to, after_line}
use Rattle.sheet_stream.specs.declared.Stream.{Stream}
use Rattle.sheet_stream.specs.declared.Fed.{Fed}

-- no line is open: every byte of the room is 0, so that no earlier line's byte can tell two states apart
unfoldable pub no_bytes : List ℕ
no_bytes = replicate 200 0

abbrev pub between : Standing → Bool → Stream
between st finished = record { standing = st; count = 0; kept = no_bytes; finished = finished }

-- nothing read yet. What stands past a chain's steps is never looked at
abbrev pub fresh : List Step → Stream
fresh spare = between (fresh_at spare) false

abbrev pub spare_step : Step
spare_step = record { kind = Frame; before = record { datum = pos 0; epoch = pos 0 }; after = record { datum = pos 0; epoch = pos 0 } }

-- ---- the open line
-- a byte more: kept where there is room for it, dropped where there is none. So a count of 200 says that the line is too long
unfoldable pub keep : Stream → ℕ → Stream
keep s b =
    pick (ltb s.count longest_line)
    (record { standing = s.standing; count = s.count + 1; kept = set s.kept s.count b; finished = s.finished })
    s

abbrev pub held : Stream → List ℕ
held s = take s.count s.kept

-- a line that has not ended, or is too long, as the rules are handed it: no line feed ends it. No sheet leaves a line feed among the bytes kept; in a state that
-- has one as the last, 0 stands for it
unfoldable pub unended : List ℕ → List ℕ
unended l = pick (eqb (get_or l (length l - 1) 0) line_feed) (set l (length l - 1) 0) l

-- what the rules are handed at a line feed: the line; of one that is over 200 bytes with its line feed, the first 200
unfoldable pub closing : Stream → List ℕ
closing s = pick (ltb s.count longest_line) (held s ++ (line_feed ∷ [])) (unended (held s))

unfoldable pub ended : Stream → Stream
ended s = between (after_line s.standing (closing s)) s.finished

unfoldable pub end_reply : Stream → Reply
end_reply s = reply_to s.standing (closing s)

-- ---- a call: up to and with the first line feed, or the whole fragment
-- what it answers: no line ended; or one did, and the reply to it, which may print nothing; or the refusal
abbrev pub Outcome : Type 0
Outcome = Result (Option Reply) Refusal

abbrev pub fed : Stream → ℕ → Outcome → Fed
fed s n o = record { stream = s; taken = n; outcome = o }

abbrev pub later : Fed → Fed
later r = fed r.stream (suc r.taken) r.outcome

unfoldable pub scan : Stream → List ℕ → Fed
scan s [] = fed s 0 (Ok None)
scan s (b ∷ f) = pick (eqb b line_feed) (fed (ended s) 1 (Ok (Some (end_reply s)))) (later (scan (keep s b) f))

-- 29 first, which takes and changes nothing
unfoldable pub sound : Stream → Bool
sound s = not s.finished && (leb s.count longest_line && sound_standing s.standing)

abbrev pub unsound : Stream → Fed
unsound s = fed s 0 (Err refusal.State)

unfoldable pub feed_of : Stream → List ℕ → Fed
feed_of s f = pick (sound s) (scan s f) (unsound s)

-- the finish: a line left open is answered as the rules answer a line with no line feed
unfoldable pub finish_of : Stream → Fed
finish_of s =
    pick (sound s)
    (pick (eqb s.count 0)
    (fed (between s.standing true) 0 (Ok None))
    (fed (between (after_line s.standing (unended (held s))) true) 0 (Ok (Some (reply_to s.standing (unended (held s)))))))
    (unsound s)

-- ---- how the code gets there
abbrev pub state_of : Standing → ℕ → List ℕ → Bool → Stream
state_of standing count kept finished = record { standing = standing; count = count; kept = kept; finished = finished }

-- the first n bytes end in a line feed
unfoldable pub fed_at : List ℕ → ℕ → Bool
fed_at f n = ltb 0 n && eqb (get_or f (n - 1) 0) line_feed

-- a line that ends, in whatever state, with so many bytes taken
abbrev pub ends_with : Stream → List ℕ → ℕ → Bool → Fed
ends_with s l n finished = pick (sound_standing s.standing) (fed (between (after_line s.standing l) finished) n (Ok (Some (reply_to s.standing l)))) (unsound s)

-- ---- for a caller that keeps the state as numbers: how large its counts are, and how long an answer is
pub record Countable (s : Stream) : Type 0 where
  pub from : 1 ≤ s.standing.line
  pub to : s.standing.line ≤ suc most_lines
  pub count : s.count ≤ longest_line
  pub steps : s.standing.chain.length ≤ 8

abbrev pub Short : Outcome → Type 0
Short (Ok None) = Unit {0}
Short (Ok (Some r)) = length (reply_text r) ≤ 100
Short (Err refused) = Unit {0}
