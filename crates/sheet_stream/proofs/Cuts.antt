-- The cuts don't matter. Assumes nothing.
use Prim.Native.Nat.{ℕ, zero, suc, ◌≤◌}
use mathlib.Core.Path.{◌≡◌, refl, sym, ap, ◌∙◌}
use mathlib.Core.Bool.{Bool, true, false}
use mathlib.Core.List.{List, [], ◌∷◌, ◌++◌}
use lib.Dec.{eqb}
use lib.ListN.{length, take, drop, length-drop}
use native.Mathlib.Omega.{arith}
use Rattle.std.specs.Prelude.{Some, Ok}
use Rattle.refusal.specs.Order.{pick}
use Rattle.line.specs.Bytes.{line_feed}
use Rattle.sheet_rules.specs.declared.Reply.{Reply}
use Rattle.sheet_stream.specs.declared.Stream.{Stream}
use Rattle.sheet_stream.specs.declared.Fed.{Fed}
use Rattle.sheet_stream.specs.Fragments.{keep, ended, end_reply, fed, later, scan, feed_of}
use Rattle.sheet_stream.specs.Calls.{SoFar, so_far, after, said_by, calls, deliver, joined, bytes, AnyCalls, done, call}
use Rattle.sheet_stream.specs.WholeSheet.{CutsDontMatter}
use Rattle.sheet_stream.proofs.Laws.{Sound, sound-parts, sound-made, sound-ended, sound-keep, sound-scan, feed-sound, takes}

-- one call, and the bytes that it left
pub scan-bytes : (s : Stream) (f : List ℕ) → after (said_by (scan s f).outcome) (bytes (scan s f).stream (drop (scan s f).taken f)) ≡ bytes s f
unfolding scan bytes
scan-bytes s [] = refl
scan-bytes s (b ∷ f) = go (eqb b line_feed) (scan-bytes (keep s b) f)
  where
    go : (t : Bool) → after (said_by (scan (keep s b) f).outcome) (bytes (scan (keep s b) f).stream (drop (scan (keep s b) f).taken f)) ≡ bytes (keep s b) f → (let r : Fed = pick t (fed (ended s) 1 (Ok (Some (end_reply s)))) (later (scan (keep s b) f)) in after (said_by r.outcome) (bytes r.stream (drop r.taken (b ∷ f)))) ≡ pick t (after (end_reply s ∷ []) (bytes (ended s) f)) (bytes (keep s b) f)
    go true ih = refl
    go false ih = ih

none : (s : Stream) → so_far [] s ≡ bytes s []
unfolding bytes
none s = refl

-- as many calls as bytes, or more
pub calls-bytes : (n : ℕ) (s : Stream) (f : List ℕ) → Sound s → length f ≤ n → calls n s f ≡ bytes s f
unfolding calls
calls-bytes zero s [] p h = none s
calls-bytes zero s (b ∷ f) p h = absurd (omega arith)
calls-bytes (suc n) s f p h =
    rw (feed-sound s f (sound-made s p), calls-bytes n (scan s f).stream (drop (scan s f).taken f) (sound-scan s f p) (left f h)) (scan-bytes s f)
  where
    left : (f : List ℕ) → length f ≤ suc n → length (drop (scan s f).taken f) ≤ n
    left [] h = rw length-drop (omega arith)
    left (b ∷ f) h = rw length-drop (omega (arith, takes s b f))

pub sound-bytes : (s : Stream) (f : List ℕ) → Sound s → Sound (bytes s f).state
unfolding bytes
sound-bytes s [] p = p
sound-bytes s (b ∷ f) p = go (eqb b line_feed) (sound-bytes (ended s) f (sound-ended s p)) (sound-bytes (keep s b) f (sound-keep s b p))
  where
    go : (t : Bool) → Sound (bytes (ended s) f).state → Sound (bytes (keep s b) f).state → Sound (pick {A = SoFar} t (after (end_reply s ∷ []) (bytes (ended s) f)) (bytes (keep s b) f)).state
    go true h k = h
    go false h k = k

-- a ++ b is a and then b
pub bytes-append : (s : Stream) (a b : List ℕ) → bytes s (a ++ b) ≡ after (bytes s a).replies (bytes (bytes s a).state b)
unfolding bytes
bytes-append s [] b = refl
bytes-append s (x ∷ a) b = go (eqb x line_feed) (bytes-append (ended s) a b) (bytes-append (keep s x) a b)
  where
    go : (t : Bool) → bytes (ended s) (a ++ b) ≡ after (bytes (ended s) a).replies (bytes (bytes (ended s) a).state b) → bytes (keep s x) (a ++ b) ≡ after (bytes (keep s x) a).replies (bytes (bytes (keep s x) a).state b) → pick t (after (end_reply s ∷ []) (bytes (ended s) (a ++ b))) (bytes (keep s x) (a ++ b)) ≡ (let r : SoFar = pick t (after (end_reply s ∷ []) (bytes (ended s) a)) (bytes (keep s x) a) in after r.replies (bytes r.state b))
    go true h k = ap (after (end_reply s ∷ [])) h
    go false h k = k

-- any fragments come to the bytes of their text
pub deliver-bytes : (s : Stream) (fs : List (List ℕ)) → Sound s → deliver s fs ≡ bytes s (joined fs)
unfolding deliver
deliver-bytes s [] p = none s
deliver-bytes s (f ∷ fs) p =
    rw (calls-bytes (length f) s f p (omega arith), deliver-bytes (bytes s f).state fs (sound-bytes s f p)) (sym (bytes-append s f (joined fs)))

-- answers and closing state are the same for any two cuttings of one text
pub cuts : CutsDontMatter
cuts s fs gs e q = deliver-bytes s fs (sound-parts s e) ∙ ap (bytes s) q ∙ sym (deliver-bytes s gs (sound-parts s e))

-- ---- and any caller at all
bytes-feed : (s : Stream) (b : ℕ) (f : List ℕ) → eqb b line_feed ≡ true → bytes s (b ∷ f) ≡ after (end_reply s ∷ []) (bytes (ended s) f)
unfolding bytes
bytes-feed s b f e = rw e

bytes-keep : (s : Stream) (b : ℕ) (f : List ℕ) → eqb b line_feed ≡ false → bytes s (b ∷ f) ≡ bytes (keep s b) f
unfolding bytes
bytes-keep s b f e = rw e

scan-any : (s : Stream) (f rest : List ℕ) → bytes s (take (scan s f).taken f ++ rest) ≡ after (said_by (scan s f).outcome) (bytes (scan s f).stream rest)
unfolding scan
scan-any s [] rest = refl
scan-any s (b ∷ f) rest = go (eqb b line_feed) refl (scan-any (keep s b) f rest)
  where
    go : (t : Bool) → eqb b line_feed ≡ t → bytes (keep s b) (take (scan (keep s b) f).taken f ++ rest) ≡ after (said_by (scan (keep s b) f).outcome) (bytes (scan (keep s b) f).stream rest) → (let r : Fed = pick t (fed (ended s) 1 (Ok (Some (end_reply s)))) (later (scan (keep s b) f)) in bytes s (take r.taken (b ∷ f) ++ rest) ≡ after (said_by r.outcome) (bytes r.stream rest))
    go true q ih = bytes-feed s b rest q
    go false q ih = bytes-keep s b (take (scan (keep s b) f).taken f ++ rest) q ∙ ih

pub any-calls : {s s' : Stream} {text : List ℕ} {rs : List Reply} → Sound s → AnyCalls s text rs s' → bytes s text ≡ so_far rs s'
any-calls p done = sym (none _)
any-calls {s} {s'} p (call {rest = rest} {rs = rs} f more) =
    let e = feed-sound s f (sound-made s p) in
    let q : Sound (feed_of s f).stream = rw e (sound-scan s f p) in
    let i = any-calls q more in
    go f rest rs e i
  where
    go : (f rest : List ℕ) (rs : List Reply) → feed_of s f ≡ scan s f → bytes (feed_of s f).stream rest ≡ so_far rs s' → bytes s (take (feed_of s f).taken f ++ rest) ≡ so_far (said_by (feed_of s f).outcome ++ rs) s'
    go f rest rs e i = rw e (scan-any s f rest ∙ ap (after (said_by (scan s f).outcome)) (rw e at i))
