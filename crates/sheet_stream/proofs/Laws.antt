-- The laws of a call. Assumes nothing.
use Prim.Native.Nat.{ℕ, suc, ◌+◌, ◌-◌, ◌≤◌, ◌<◌, min}
use mathlib.Core.Path.{◌≡◌, refl, ap, ◌∙◌}
use mathlib.Core.Bool.{Bool, true, false, not, ◌&&◌}
use mathlib.Core.List.{List, [], ◌∷◌}
use lib.Dec.{eqb, ltb}
use lib.ListN.{length, get_or, set, replicate, length-set}
use lib.Seq.{get_or-set_same, length-take-le}
use native.Mathlib.Omega.{arith}
use borrow.Author.Tests.{le-leb, leb-true, ltb-true, not-true, eq-eqb, ne_eqb, eqb-true, eqb-false}
use Rattle.std.specs.Prelude.{Some, None, Ok}
use Rattle.refusal.specs.Numbers as refusal
use Rattle.refusal.specs.Order.{pick}
use Rattle.line.specs.Bytes.{line_feed}
use Rattle.line.specs.Fields.{longest_line}
use Rattle.sheet_rules.specs.declared.Standing.{Standing}
use Rattle.sheet_rules.specs.declared.Reply.{Reply}
use Rattle.sheet_rules.specs.declared.Reply.TheVariants as reply
use Rattle.sheet_rules.specs.OneLine.{most_lines, sheet_at, sound_standing, reply_to, after_line}
use Rattle.sheet_rules.proofs.OneLine.{both, sound-after, reply-rules, reply-past}
use Rattle.sheet_rules.proofs.OneLine as line
use Rattle.sheet_rules.proofs.Room.{answer-short}
use Rattle.sheet_rules.proofs.Unread.{open-length}
use Rattle.sheet_stream.specs.declared.Stream.{Stream}
use Rattle.sheet_stream.specs.declared.Fed.{Fed}
use Rattle.sheet_stream.specs.Fragments.{Outcome, between, no_bytes, keep, held, unended, closing, ended, end_reply, fed, later, scan, sound, unsound, feed_of, finish_of, Countable, Short}

-- no bytes kept: a room of zeros
pub no-bytes-is : replicate 200 0 ≡ no_bytes
unfolding no_bytes
no-bytes-is = refl

-- ---- a sound state
pub record Sound (s : Stream) : Type 0 where
  pub going : s.finished ≡ false
  pub count : s.count ≤ 200
  pub standing : line.Sound s.standing

pub sound-parts : (s : Stream) → sound s ≡ true → Sound s
unfolding sound
sound-parts s e =
    let a = both _ _ e in
    let b = both _ _ a.1 in
    record { going = not-true _ a.0; count = leb-true _ _ b.0; standing = line.sound-parts s.standing b.1 }

pub sound-made : (s : Stream) → Sound s → sound s ≡ true
unfolding sound
sound-made s p = rw (p.going, le-leb _ _ p.count, line.sound-made s.standing p.standing)

-- with a count that the room has
pub sound-is : (s : Stream) → s.count ≤ longest_line → sound s ≡ (not s.finished && sound_standing s.standing)
unfolding sound
sound-is s h = rw (le-leb s.count longest_line h)

pub sound-ended : (s : Stream) → Sound s → Sound (ended s)
unfolding ended
sound-ended s p = record { going = p.going; count = omega arith; standing = sound-after s.standing (closing s) p.standing }

pub sound-keep : (s : Stream) (b : ℕ) → Sound s → Sound (keep s b)
unfolding keep
sound-keep s b p = go (ltb s.count longest_line) refl
  where
    go : (t : Bool) → ltb s.count longest_line ≡ t → Sound (pick t (record { standing = s.standing; count = s.count + 1; kept = set s.kept s.count b; finished = s.finished }) s)
    go true q = record { going = p.going; count = omega (arith, ltb-true s.count longest_line q); standing = p.standing }
    go false q = p

pub sound-scan : (s : Stream) (f : List ℕ) → Sound s → Sound (scan s f).stream
unfolding scan
sound-scan s [] p = p
sound-scan s (b ∷ f) p = go (eqb b line_feed) (sound-scan (keep s b) f (sound-keep s b p))
  where
    go : (t : Bool) → Sound (scan (keep s b) f).stream → Sound (pick {A = Fed} t (fed (ended s) 1 (Ok (Some (end_reply s)))) (later (scan (keep s b) f))).stream
    go true ih = sound-ended s p
    go false ih = ih

-- ---- a call, sound or not
pub feed-sound : (s : Stream) (f : List ℕ) → sound s ≡ true → feed_of s f ≡ scan s f
unfolding feed_of
feed-sound s f e = rw e

pub feed-state : (s : Stream) (f : List ℕ) → sound s ≡ false → feed_of s f ≡ unsound s
unfolding feed_of
feed-state s f e = rw e

-- some byte is taken, where there is one
pub takes : (s : Stream) (b : ℕ) (f : List ℕ) → 1 ≤ (scan s (b ∷ f)).taken
unfolding scan
takes s b f = go (eqb b line_feed)
  where
    go : (t : Bool) → 1 ≤ (pick {A = Fed} t (fed (ended s) 1 (Ok (Some (end_reply s)))) (later (scan (keep s b) f))).taken
    go true = omega arith
    go false = omega arith

-- ---- a line that no line feed ends
pub unended-same : (l : List ℕ) → (get_or l (length l - 1) 0 ≡ line_feed → ⊥) → unended l ≡ l
unfolding unended
unended-same l n = rw (ne_eqb (get_or l (length l - 1) 0) line_feed n)

pub unended-fed : (l : List ℕ) → get_or l (length l - 1) 0 ≡ line_feed → unended l ≡ set l (length l - 1) 0
unfolding unended
unended-fed l e = rw (eq-eqb (get_or l (length l - 1) 0) line_feed e)

pub unended-length : (l : List ℕ) → length (unended l) ≡ length l
unfolding unended
unended-length l = go (eqb (get_or l (length l - 1) 0) line_feed)
  where
    go : (t : Bool) → length (pick t (set l (length l - 1) 0) l) ≡ length l
    go true = length-set l (length l - 1) 0
    go false = refl

pub unended-last : (l : List ℕ) → get_or (unended l) (length (unended l) - 1) 0 ≡ line_feed → ⊥
unended-last l = go (eqb (get_or l (length l - 1) 0) line_feed) refl
  where
    go : (t : Bool) → eqb (get_or l (length l - 1) 0) line_feed ≡ t → get_or (unended l) (length (unended l) - 1) 0 ≡ line_feed → ⊥
    go true q e =
        let f = eqb-true (get_or l (length l - 1) 0) line_feed q in
        zeroed l (rw (unended-length l, unended-fed l f) at e)
      where
        zeroed : (l : List ℕ) → get_or (set l (length l - 1) 0) (length l - 1) 0 ≡ line_feed → ⊥
        zeroed [] e = omega arith
        zeroed (b ∷ l) e = let y = get_or-set_same (b ∷ l) (length (b ∷ l) - 1) 0 0 (omega arith) in omega (arith, y, e)
    go false q e =
        let n = eqb-false (get_or l (length l - 1) 0) line_feed q in
        n (rw (unended-same l n) at e)

-- ---- the finish
pub finish-state : (s : Stream) → sound s ≡ false → finish_of s ≡ unsound s
unfolding finish_of
finish-state s e = rw e

pub finish-none : (s : Stream) → sound s ≡ true → s.count ≡ 0 → finish_of s ≡ fed (between s.standing true) 0 (Ok None)
unfolding finish_of
finish-none s e z = rw (e, eq-eqb s.count 0 z)

pub finish-open : (s : Stream) → sound s ≡ true → (s.count ≡ 0 → ⊥) → finish_of s ≡ fed (between (after_line s.standing (unended (held s))) true) 0 (Ok (Some (reply_to s.standing (unended (held s)))))
unfolding finish_of
finish-open s e z = rw (e, ne_eqb s.count 0 z)

-- ---- after the finish every call is 29, which takes and changes nothing
pub finish-finishes : (s : Stream) → sound s ≡ true → (finish_of s).stream.finished ≡ true
unfolding finish_of
finish-finishes s e = rw e (go (eqb s.count 0))
  where
    go : (t : Bool) → (pick {A = Fed} t (fed (between s.standing true) 0 (Ok None)) (fed (between (after_line s.standing (unended (held s))) true) 0 (Ok (Some (reply_to s.standing (unended (held s))))))).stream.finished ≡ true
    go true = refl
    go false = refl

pub not_going : (s : Stream) → s.finished ≡ true → sound s ≡ false
unfolding sound
not_going s e = rw e

pub fed-after-finish : (s : Stream) (f : List ℕ) → s.finished ≡ true → feed_of s f ≡ unsound s
fed-after-finish s f e = feed-state s f (not_going s e)

pub finished-after-finish : (s : Stream) → s.finished ≡ true → finish_of s ≡ unsound s
finished-after-finish s e = finish-state s (not_going s e)

-- a line that ended
abbrev replied : Reply → Outcome
replied r = Ok (Some r)

-- ---- what the finish answers to a line left open: 18 at its length within the limit; past the limit 28
pub finish-length : (s : Stream) → sound s ≡ true → length s.kept ≡ longest_line → 0 < s.count → s.standing.line ≤ most_lines → (finish_of s).outcome ≡ Ok (Some (reply.Refused s.standing.line refusal.length s.count))
finish-length s e k h l =
    let p = sound-parts s e in
    let z : length (held s) ≡ s.count = length-take-le s.count s.kept (omega (arith, p.count)) in
    let m : min (length (unended (held s))) longest_line ≡ s.count = omega (arith, p.count, unended-length (held s)) in
    ap (λ (r : Fed). r.outcome) (finish-open s e (λ q. omega arith))
    ∙ ap replied (reply-rules s.standing (unended (held s)) l ∙ open-length (sheet_at s.standing) (unended (held s)) (unended-last (held s)) ∙ ap (reply.Refused s.standing.line refusal.length) m)

pub finish-limit : (s : Stream) → sound s ≡ true → 0 < s.count → most_lines < s.standing.line → (finish_of s).outcome ≡ Ok (Some (reply.Refused (suc most_lines) refusal.limit 0))
finish-limit s e h l = ap (λ (r : Fed). r.outcome) (finish-open s e (λ q. omega arith)) ∙ ap replied (reply-past s.standing (unended (held s)) l)

-- ---- for callers: no more is taken than there is
scan-within : (s : Stream) (f : List ℕ) → (scan s f).taken ≤ length f
unfolding scan
scan-within s [] = omega arith
scan-within s (b ∷ f) = go (eqb b line_feed) (scan-within (keep s b) f)
  where
    go : (t : Bool) → (scan (keep s b) f).taken ≤ length f → (pick {A = Fed} t (fed (ended s) 1 (Ok (Some (end_reply s)))) (later (scan (keep s b) f))).taken ≤ suc (length f)
    go true h = omega arith
    go false h = omega arith

pub within : (s : Stream) (f : List ℕ) → (feed_of s f).taken ≤ length f
unfolding feed_of
within s f = go (sound s) (scan-within s f)
  where
    go : (t : Bool) → (scan s f).taken ≤ length f → (pick {A = Fed} t (scan s f) (unsound s)).taken ≤ length f
    go true h = h
    go false h = omega arith

-- ---- for a caller that keeps the state as numbers
countable : (s : Stream) → Sound s → Countable s
countable s p = record {
  from = omega (arith, p.standing.from);
  to = p.standing.to;
  count = p.count;
  steps = line.sound-short s.standing (line.sound-made s.standing p.standing);
}

pub fed-countable : (s : Stream) (f : List ℕ) → Countable s → Countable (feed_of s f).stream
unfolding feed_of
fed-countable s f c = go (sound s) refl
  where
    go : (t : Bool) → sound s ≡ t → Countable (pick {A = Fed} t (scan s f) (unsound s)).stream
    go true e = countable (scan s f).stream (sound-scan s f (sound-parts s e))
    go false e = c

pub finished-countable : (s : Stream) → Countable s → Countable (finish_of s).stream
unfolding finish_of
finished-countable s c = go (sound s) (eqb s.count 0) refl
  where
    ended_so : (st : Standing) → line.Sound st → Countable (between st true)
    ended_so st p = record {
      from = omega (arith, p.from);
      to = p.to;
      count = omega arith;
      steps = line.sound-short st (line.sound-made st p);
    }

    go : (t u : Bool) → sound s ≡ t → Countable (pick {A = Fed} t (pick {A = Fed} u (fed (between s.standing true) 0 (Ok None)) (fed (between (after_line s.standing (unended (held s))) true) 0 (Ok (Some (reply_to s.standing (unended (held s))))))) (unsound s)).stream
    go true true e = ended_so s.standing (sound-parts s e).standing
    go true false e = ended_so (after_line s.standing (unended (held s))) (sound-after s.standing (unended (held s)) (sound-parts s e).standing)
    go false u e = c

-- an answer has at most 100 bytes
keep-standing : (s : Stream) (b : ℕ) → (keep s b).standing ≡ s.standing
unfolding keep
keep-standing s b = go (ltb s.count longest_line)
  where
    go : (t : Bool) → (pick {A = Stream} t (record { standing = s.standing; count = s.count + 1; kept = set s.kept s.count b; finished = s.finished }) s).standing ≡ s.standing
    go true = refl
    go false = refl

scan-short : (s : Stream) (f : List ℕ) → s.standing.line ≤ suc most_lines → Short (scan s f).outcome
unfolding scan end_reply
scan-short s [] h = tt
scan-short s (b ∷ f) h = go (eqb b line_feed) (scan-short (keep s b) f (rw (keep-standing s b) h))
  where
    go : (t : Bool) → Short (scan (keep s b) f).outcome → Short (pick {A = Fed} t (fed (ended s) 1 (Ok (Some (end_reply s)))) (later (scan (keep s b) f))).outcome
    go true i = answer-short s.standing (closing s) h
    go false i = i

pub fed-short : (s : Stream) (f : List ℕ) → Countable s → Short (feed_of s f).outcome
unfolding feed_of
fed-short s f c = go (sound s)
  where
    go : (t : Bool) → Short (pick {A = Fed} t (scan s f) (unsound s)).outcome
    go true = scan-short s f c.to
    go false = tt

pub finished-short : (s : Stream) → Countable s → Short (finish_of s).outcome
unfolding finish_of
finished-short s c = go (sound s) (eqb s.count 0)
  where
    go : (t u : Bool) → Short (pick {A = Fed} t (pick {A = Fed} u (fed (between s.standing true) 0 (Ok None)) (fed (between (after_line s.standing (unended (held s))) true) 0 (Ok (Some (reply_to s.standing (unended (held s))))))) (unsound s)).outcome
    go true true = tt
    go true false = answer-short s.standing (unended (held s)) c.to
    go false u = tt
