-- From a fresh state, whatever the cuts, each line is answered as in one run over the text's lines. Assumes nothing.
use Prim.Native.Nat.{ℕ, zero, suc, ◌+◌, ◌-◌, ◌≤◌, min}
use mathlib.Core.Path.{◌≡◌, refl, sym, ap, ◌∙◌}
use mathlib.Core.Bool.{Bool, true, false}
use mathlib.Core.List.{List, [], ◌∷◌, ◌++◌, append_assoc, append-nil}
use lib.Dec.{eqb, ltb}
use lib.ListN.{length, take, set, replicate, length-append, length-set, length-replicate}
use lib.Seq.{take_all, take-suc-set, take-append-le, take-nil}
use native.Mathlib.Numerals.{add-one}
use native.Mathlib.Omega.{arith}
use borrow.Author.Tests.{eqb-true, eqb-false, ltb-true, ltb-false}
use Rattle.refusal.specs.Order.{pick}
use Rattle.chain.specs.declared.Step.{Step}
use Rattle.chain.specs.declared.Chain.{Chain}
use Rattle.line.specs.Bytes.{line_feed}
use Rattle.line.specs.Fields.{longest_line, front}
use Rattle.line.specs.Lines.{lines}
use Rattle.line.proofs.Lines.{no_lines, lines-on, count-lines}
use Rattle.line.proofs.NotRead.{NoFeed, none_yet, one_more, no-feed-in, no-feed-last}
use Rattle.listing.specs.Fold as listing
use Rattle.listing.specs.Fold.{longest_input}
use Rattle.sheet_rules.specs.declared.Reply.{Reply}
use Rattle.sheet_rules.specs.declared.Standing.{Standing}
use Rattle.sheet_rules.specs.Sheet.{Sheet, rules, reply_text, next_of}
use Rattle.sheet_rules.specs.Sheet as sheet
use Rattle.sheet_rules.specs.OneLine.{most_lines, sheet_at, standing_at, fresh_at, reply_to, after_line}
use Rattle.sheet_rules.proofs.Laws.{next-line}
use Rattle.sheet_rules.proofs.OneLine.{reply-past, after-past, reply-rules, after-rules, after-standing, same-reply, same_after}
use Rattle.sheet_rules.proofs.OneLine as line
use Rattle.sheet_rules.proofs.Room.{sheet-lines}
use Rattle.sheet_rules.proofs.Unread.{cut-reply, cut-next, open-reply, open_next}
use Rattle.sheet_stream.specs.declared.Stream.{Stream}
use Rattle.sheet_stream.specs.Fragments.{no_bytes, between, fresh, keep, held, unended, closing, ended, end_reply}
use Rattle.sheet_stream.specs.Calls.{SoFar, so_far, after, deliver, joined, bytes, finished, rules_run, rules_last, texts}
use Rattle.sheet_stream.specs.WholeSheet.{OverTheLink, one_run, answers_to, closing_of, no_steps, past_limit}
use Rattle.sheet_stream.proofs.Laws.{Sound, sound-made, sound-ended, sound-keep, unended-same, finish-none, finish-open}
use Rattle.sheet_stream.proofs.Cuts.{deliver-bytes, any-calls}

-- ---- the lines of a text that follows an open line
abbrev open_end : List ℕ → List (List ℕ)
open_end [] = []
open_end (a ∷ w) = (a ∷ w) ∷ []

lines_from : List ℕ → List ℕ → List (List ℕ)
lines_from w [] = open_end w
lines_from w (b ∷ f) = pick (eqb b line_feed) ((w ++ (b ∷ [])) ∷ lines_from [] f) (lines_from (w ++ (b ∷ [])) f)

abbrev glue : List ℕ → List (List ℕ) → List (List ℕ)
glue w [] = open_end w
glue w (l ∷ ls) = (w ++ l) ∷ ls

glue-none : (ls : List (List ℕ)) → glue [] ls ≡ ls
glue-none [] = refl
glue-none (l ∷ ls) = refl

glue-push : (w : List ℕ) (b : ℕ) (ls : List (List ℕ)) → glue (w ++ (b ∷ [])) ls ≡ glue w (front b ls)
glue-push [] b [] = refl
glue-push (a ∷ w) b [] = refl
glue-push w b (l ∷ ls) = ap (λ (x : List ℕ). x ∷ ls) (append_assoc w (b ∷ []) l)

from-lines : (w f : List ℕ) → lines_from w f ≡ glue w (lines f)
unfolding lines_from
from-lines w [] = rw no_lines
from-lines w (b ∷ f) = rw (lines-on b f) (go (eqb b line_feed) (from-lines [] f) (from-lines (w ++ (b ∷ [])) f))
  where
    go : (t : Bool) → lines_from [] f ≡ glue [] (lines f) → lines_from (w ++ (b ∷ [])) f ≡ glue (w ++ (b ∷ [])) (lines f) → pick t ((w ++ (b ∷ [])) ∷ lines_from [] f) (lines_from (w ++ (b ∷ [])) f) ≡ glue w (pick t ((b ∷ []) ∷ lines f) (front b (lines f)))
    go true h k = ap (λ (x : List (List ℕ)). (w ++ (b ∷ [])) ∷ x) (h ∙ glue-none (lines f))
    go false h k = k ∙ glue-push w b (lines f)

-- ---- the state keeps the first 200 bytes of the open line
record Holds (s : Stream) (st : Standing) (w : List ℕ) : Type 0 where
  standing : s.standing ≡ st
  count : s.count ≡ min (length w) longest_line
  begins : take s.count s.kept ≡ take longest_line w
  size : length s.kept ≡ longest_line

held_none : (st : Standing) (fin : Bool) → Holds (between st fin) st []
unfolding no_bytes
held_none st fin = record { standing = refl; count = refl; begins = refl; size = length-replicate {A = ℕ} 200 0 }

held_more : (s : Stream) (st : Standing) (w : List ℕ) (b : ℕ) → Holds s st w → Holds (keep s b) st (w ++ (b ∷ []))
unfolding keep
held_more s st w b h = go (ltb s.count longest_line) refl
  where
    go : (t : Bool) → ltb s.count longest_line ≡ t → Holds (pick t (record { standing = s.standing; count = s.count + 1; kept = set s.kept s.count b; finished = s.finished }) s) st (w ++ (b ∷ []))
    go true q =
        let l = ltb-true s.count longest_line q in
        let n = length-append w (b ∷ []) in
        record {
          standing = h.standing;
          count = omega (arith, h.count);
          begins = rw (add-one, take-suc-set s.kept s.count b (omega (arith, h.size)), h.begins, take_all longest_line w (omega (arith, h.count))) (sym (take_all longest_line (w ++ (b ∷ [])) (omega (arith, h.count))));
          size = length-set s.kept s.count b ∙ h.size;
        }
    go false q =
        let l = ltb-false s.count longest_line q in
        let n = length-append w (b ∷ []) in
        record {
          standing = h.standing;
          count = omega (arith, h.count);
          begins = h.begins ∙ sym (take-append-le longest_line w (b ∷ []) (omega (arith, h.count)));
          size = h.size;
        }

-- ---- two lines that are answered alike
record Same (s : Standing) (k l : List ℕ) : Type 0 where
  reply : reply_to s k ≡ reply_to s l
  next : after_line s k ≡ after_line s l

same : (s : Standing) (k l : List ℕ) → k ≡ l → Same s k l
same s k l e = record { reply = ap (reply_to s) e; next = ap (after_line s) e }

-- no line feed was kept
open-held : (s : Stream) (st : Standing) (w : List ℕ) → Holds s st w → NoFeed w → unended (held s) ≡ held s
open-held s st w h n = rw h.begins (unended-same (take longest_line w) (no-feed-last (take longest_line w) (no-feed-in longest_line w n)))

-- what the rules are handed at a line feed does for the line itself
ended-line : (s : Stream) (st : Standing) (w : List ℕ) → Holds s st w → NoFeed w → Same st (closing s) (w ++ (line_feed ∷ []))
unfolding closing
ended-line s st w h n = go (ltb s.count longest_line) refl
  where
    go : (t : Bool) → ltb s.count longest_line ≡ t → Same st (pick t (held s ++ (line_feed ∷ [])) (unended (held s))) (w ++ (line_feed ∷ []))
    go true q =
        let l = ltb-true s.count longest_line q in
        same st _ _ (ap (λ (x : List ℕ). x ++ (line_feed ∷ [])) (h.begins ∙ take_all longest_line w (omega (arith, h.count))))
    go false q =
        let l = ltb-false s.count longest_line q in
        let m : longest_line ≤ length w = omega (arith, h.count) in
        rw (open-held s st w h n, h.begins) (record { reply = same-reply st _ _ (cut-reply (sheet_at st) w n m); next = same_after st _ _ (cut-next (sheet_at st) w n m) })

-- and what they are handed at the finish, for the open line
open-line : (s : Stream) (st : Standing) (w : List ℕ) → Holds s st w → NoFeed w → Same st (unended (held s)) w
open-line s st w h n = rw (open-held s st w h n) (go (ltb (length w) longest_line) refl)
  where
    go : (t : Bool) → ltb (length w) longest_line ≡ t → Same st (held s) w
    go true q = let l = ltb-true (length w) longest_line q in same st _ _ (h.begins ∙ take_all longest_line w (omega arith))
    go false q =
        let m = ltb-false (length w) longest_line q in
        rw h.begins (record { reply = same-reply st _ _ (open-reply (sheet_at st) w n m); next = same_after st _ _ (open_next (sheet_at st) w n m) })

-- ---- the run, line by line, with the limit
run : Standing → List (List ℕ) → List Reply
run st [] = []
run st (l ∷ ls) = reply_to st l ∷ run (after_line st l) ls

last : Standing → List (List ℕ) → Standing
last st [] = st
last st (l ∷ ls) = last (after_line st l) ls

abbrev Ran : Standing → List (List ℕ) → SoFar
Ran st ls = so_far (run st ls) (between (last st ls) true)

at-end : (s : Stream) (st : Standing) (w : List ℕ) → Sound s → NoFeed w → Holds s st w → finished (so_far [] s) ≡ Ran st (open_end w)
unfolding finished run last
at-end s st [] p n h = rw (finish-none s (sound-made s p) h.count, h.standing)
at-end s st (a ∷ w) p n h =
    let e = open-line s st (a ∷ w) h n in
    rw (finish-open s (sound-made s p) (λ z. omega (arith, h.count, z)), h.standing, e.reply, e.next)

at-feed : (s : Stream) (st : Standing) (w : List ℕ) (t : SoFar) (ls : List (List ℕ)) → NoFeed w → Holds s st w → finished t ≡ Ran (after_line st (w ++ (line_feed ∷ []))) ls → finished (after (end_reply s ∷ []) t) ≡ Ran st ((w ++ (line_feed ∷ [])) ∷ ls)
unfolding finished run last end_reply
at-feed s st w t ls n h e =
    let m = ended-line s st w h n in
    let r : reply_to s.standing (closing s) ≡ reply_to st (w ++ (line_feed ∷ [])) = ap (λ (x : Standing). reply_to x (closing s)) h.standing ∙ m.reply in
    rw r (ap (after (reply_to st (w ++ (line_feed ∷ [])) ∷ [])) e)

held-ended : (s : Stream) (st : Standing) (w : List ℕ) → NoFeed w → Holds s st w → Holds (ended s) (after_line st (w ++ (line_feed ∷ []))) []
unfolding ended
held-ended s st w n h =
    let m = ended-line s st w h n in
    let e : after_line s.standing (closing s) ≡ after_line st (w ++ (line_feed ∷ [])) = ap (λ (x : Standing). after_line x (closing s)) h.standing ∙ m.next in
    rw e (held_none (after_line st (w ++ (line_feed ∷ []))) s.finished)

runs : (f : List ℕ) (s : Stream) (st : Standing) (w : List ℕ) → Sound s → NoFeed w → Holds s st w → finished (bytes s f) ≡ Ran st (lines_from w f)
unfolding bytes lines_from
runs [] s st w p n h = at-end s st w p n h
runs (b ∷ f) s st w p n h =
    go (eqb b line_feed) refl (runs f (ended s) (after_line st (w ++ (line_feed ∷ []))) [] (sound-ended s p) none_yet (held-ended s st w n h))
    (λ m. runs f (keep s b) st (w ++ (b ∷ [])) (sound-keep s b p) (one_more w b n m) (held_more s st w b h))
  where
    go : (t : Bool) → eqb b line_feed ≡ t → finished (bytes (ended s) f) ≡ Ran (after_line st (w ++ (line_feed ∷ []))) (lines_from [] f) → ((b ≡ line_feed → ⊥) → finished (bytes (keep s b) f) ≡ Ran st (lines_from (w ++ (b ∷ [])) f)) → finished (pick t (after (end_reply s ∷ []) (bytes (ended s) f)) (bytes (keep s b) f)) ≡ Ran st (pick t ((w ++ (b ∷ [])) ∷ lines_from [] f) (lines_from (w ++ (b ∷ [])) f))
    go true q e k = rw (eqb-true b line_feed q) (at-feed s st w (bytes (ended s) f) (lines_from [] f) n h e)
    go false q e k = k (eqb-false b line_feed q)

fresh-sound : (spare : List Step) → Sound (fresh spare)
fresh-sound spare = record { going = refl; count = omega arith; standing = line.fresh-sound spare }

-- ---- the run is the rules' own up to the limit, then 28 for each further line
limited : (ls : List (List ℕ)) (st : Standing) (k : ℕ) → st.line + k ≡ suc most_lines → run st ls ≡ rules_run (sheet_at st) (take k ls) ++ replicate (length ls - k) past_limit
unfolding run rules_run
limited [] st k e = let z : 0 - k ≡ 0 = omega arith in rw (take-nil k, z)
limited (l ∷ ls) st zero e =
    let z : length ls - 0 ≡ length ls = omega arith in
    let y : suc (length ls) - 0 ≡ suc (length ls) = omega arith in
    rw (reply-past st l (omega arith), after-past st l (omega arith), limited ls st zero e, z, y)
limited (l ∷ ls) st (suc k) e =
    let h : st.line ≤ most_lines = omega arith in
    let y : suc (length ls) - suc k ≡ length ls - k = omega arith in
    let n : (after_line st l).line ≡ st.line + 1 = ap (λ (x : Sheet). x.line) (after-rules st l h) ∙ next-line (sheet_at st) l in
    let i = limited ls (after_line st l) k (omega arith) in
    let j : rules_run (sheet_at (after_line st l)) (take k ls) ≡ rules_run (next_of (sheet_at st) l) (take k ls) = ap (λ (x : Sheet). rules_run x (take k ls)) (after-rules st l h) in
    rw (reply-rules st l h, i, j, y)

-- and leaves the sheet where the rules leave it, in the chain that it began with
stands : (ls : List (List ℕ)) (c : Chain) (s : Sheet) (k : ℕ) → s.line + k ≡ suc most_lines → last (standing_at c s) ls ≡ standing_at c (rules_last s (take k ls))
unfolding last rules_last
stands [] c s k e = rw (take-nil k)
stands (l ∷ ls) c s zero e = rw (after-past (standing_at c s) l (omega arith)) (stands ls c s zero e)
stands (l ∷ ls) c s (suc k) e =
    ap (λ (st : Standing). last st ls) (after-standing c s l (omega arith)) ∙ stands ls c (next_of s l) k (omega (arith, next-line s l))

ran : (spare : List Step) (text : List ℕ) → Ran (fresh_at spare) (lines text) ≡ one_run spare text
unfolding answers_to closing_of
ran spare text =
    rw (limited (lines text) (fresh_at spare) most_lines refl, stands (lines text) (no_steps spare) sheet.fresh most_lines refl)

-- the answers and the closing state, byte by byte
bytes_run : (spare : List Step) (text : List ℕ) → finished (bytes (fresh spare) text) ≡ one_run spare text
bytes_run spare text =
    runs text (fresh spare) (fresh_at spare) [] (fresh-sound spare) none_yet (held_none (fresh_at spare) false)
    ∙ ap (Ran (fresh_at spare)) (from-lines [] text ∙ glue-none (lines text))
    ∙ ran spare text

cut : (spare : List Step) (fs : List (List ℕ)) → finished (deliver (fresh spare) fs) ≡ one_run spare (joined fs)
cut spare fs = ap finished (deliver-bytes (fresh spare) fs (fresh-sound spare)) ∙ bytes_run spare (joined fs)

-- ---- and prints what a whole sheet prints
prints : (ls : List (List ℕ)) (s : Sheet) → texts (rules_run s ls) ≡ listing.run rules s ls
unfolding texts rules_run listing.run
prints [] s = refl
prints (l ∷ ls) s = ap (λ (t : List ℕ). reply_text (sheet.reply_of s l) ++ t) (prints ls (next_of s l))

-- with a limit that is not reached
all-answered : (k : ℕ) (ls : List (List ℕ)) → length ls ≤ k → texts (rules_run sheet.fresh (take k ls) ++ replicate (length ls - k) past_limit) ≡ listing.run rules sheet.fresh ls
all-answered k ls h = let z : length ls - k ≡ 0 = omega (arith, h) in rw (z, take_all k ls h, append-nil) (prints ls sheet.fresh)

printed : (spare : List Step) (fs : List (List ℕ)) → length (joined fs) ≤ longest_input → texts (finished (deliver (fresh spare) fs)).replies ≡ sheet.sheet_of (joined fs)
unfolding answers_to
printed spare fs h =
    ap (λ (t : SoFar). texts t.replies) (cut spare fs)
    ∙ all-answered most_lines (lines (joined fs)) (omega (arith, count-lines (joined fs), h))
    ∙ sym (sheet-lines (joined fs) h)

pub over-the-link : OverTheLink
over-the-link = record {
  cut = cut;
  called = λ spare text rs t c. ap finished (sym (any-calls (fresh-sound spare) c)) ∙ bytes_run spare text;
  printed = printed;
}
