-- What the code of a call does is what the definition says, byte by byte. Assumes nothing.
use Prim.Native.Nat.{ℕ, zero, suc, ◌+◌, ◌-◌, ◌≤◌, ◌<◌, min}
use mathlib.Core.Path.{◌≡◌, refl, sym, ap, ◌∙◌}
use mathlib.Core.Bool.{Bool, true, false, ◌||◌}
use mathlib.Core.List.{List, [], ◌∷◌, append_assoc}
use lib.Dec.{eqb, ltb}
use lib.ListN.{length, get_or, take, drop, set, get_or-eq_default}
use lib.Seq.{sets, take-nil, take_all, take-suc-set, take-set-lt, get_or-take, length-take-le, drop-drop}
use native.Mathlib.Decide.{dec_lt}
use native.Mathlib.Numerals.{add-one}
use native.Mathlib.Omega.{arith}
use borrow.Author.Tests.{le-leb, lt-leb, ltb-true, ltb-false, lt-ltb, le-ltb, ne_eqb}
use Rattle.std.specs.Prelude.{Some, None, Ok}
use Rattle.refusal.specs.Order.{pick}
use Rattle.line.specs.Bytes.{line_feed}
use Rattle.line.specs.Fields.{longest_line}
use Rattle.line.specs.Lines.{first_length, line_end}
use Rattle.line.proofs.Lines.{first-none, first_on, first-end, first_some, first_fits}
use Rattle.sheet_rules.specs.declared.Standing.{Standing}
use Rattle.sheet_rules.specs.declared.Answered.{Answered}
use Rattle.sheet_rules.specs.declared.Reply.{Reply}
use Rattle.sheet_rules.specs.OneLine.{sound_standing, answered_to}
use Rattle.sheet_rules.proofs.OneLine.{both}
use Rattle.sheet_rules.proofs.Answers.{answered-unsound, answered-replied}
use Rattle.sheet_stream.specs.declared.Stream.{Stream}
use Rattle.sheet_stream.specs.declared.Fed.{Fed}
use Rattle.sheet_stream.specs.Fragments.{between, keep, held, unended, closing, ended, end_reply, fed, later, scan, sound, unsound, state_of, ends_with, fed_at, feed_of, finish_of}
use Rattle.sheet_stream.proofs.Laws.{unended-same, unended-fed, feed-sound, feed-state, finish-state, not_going}

-- ---- bytes kept one after the other
keeps : Stream → List ℕ → Stream
keeps s [] = s
keeps s (b ∷ f) = keeps (keep s b) f

module _ (st : Standing) (n : ℕ) (kept : List ℕ) (fin : Bool) where
  keep-room : (b : ℕ) → n < 200 → keep (state_of st n kept fin) b ≡ state_of st (n + 1) (set kept n b) fin
  unfolding keep
  keep-room b h = rw (lt-ltb n 200 h)

  keep-full : (b : ℕ) → 200 ≤ n → keep (state_of st n kept fin) b ≡ state_of st n kept fin
  unfolding keep
  keep-full b h = rw (le-ltb n 200 h)

  pub closing-room : n < 200 → length kept ≡ 200 → closing (state_of st n kept fin) ≡ take (n + 1) (set kept n line_feed)
  unfolding closing
  closing-room h l = rw (lt-ltb n 200 h, add-one) (sym (take-suc-set kept n line_feed (omega arith)))

  pub closing-full : 200 ≤ n → closing (state_of st n kept fin) ≡ unended (take n kept)
  unfolding closing
  closing-full h = rw (le-ltb n 200 h)

-- all at once, as far as there is room
keeps-in : (st : Standing) (fin : Bool) (f : List ℕ) (n : ℕ) (kept : List ℕ) → n ≤ 200 → keeps (state_of st n kept fin) f ≡ state_of st (min (n + length f) 200) (sets kept n (take (200 - n) f)) fin
unfolding keeps
keeps-in st fin [] n kept h = let e : min (n + 0) 200 ≡ n = omega arith in rw (e, take-nil (200 - n))
keeps-in st fin (b ∷ f) n kept h = go (dec_lt n 200) (λ (k : n + 1 ≤ 200). keeps-in st fin f (n + 1) (set kept n b) k) (keeps-in st fin f n kept h)
  where
    go :
        Dec (n < 200) →
        (n + 1 ≤ 200 → keeps (state_of st (n + 1) (set kept n b) fin) f ≡ state_of st (min (n + 1 + length f) 200) (sets (set kept n b) (n + 1) (take (200 - (n + 1)) f)) fin) →
        keeps (state_of st n kept fin) f ≡ state_of st (min (n + length f) 200) (sets kept n (take (200 - n) f)) fin →
        keeps (keep (state_of st n kept fin) b) f ≡ state_of st (min (n + suc (length f)) 200) (sets kept n (take (200 - n) (b ∷ f))) fin
    go (yes k) one same =
        let e : min (n + 1 + length f) 200 ≡ min (n + suc (length f)) 200 = omega arith in
        let z : 200 - n ≡ suc (200 - (n + 1)) = omega arith in
        ap (λ (x : Stream). keeps x f) (keep-room st n kept fin b k) ∙ one (omega arith) ∙ rw (e, z, add-one)
    go (no k) one same =
        let e : min (n + length f) 200 ≡ min (n + suc (length f)) 200 = omega arith in
        let z : 200 - n ≡ 0 = omega arith in
        ap (λ (x : Stream). keeps x f) (keep-full st n kept fin b (omega arith)) ∙ same ∙ rw (e, z)

-- one byte more of them
pub sets_more : (xs l : List ℕ) (c i : ℕ) → i < length xs → set (sets l c (take i xs)) (c + i) (get_or xs i 0) ≡ sets l c (take (i + 1) xs)
sets_more [] l c i h = absurd (omega arith)
sets_more (x ∷ xs) l c zero h = let z : c + 0 ≡ c = omega arith in rw z
sets_more (x ∷ xs) l c (suc i) h = let z : c + suc i ≡ suc c + i = omega arith in rw (z, add-one) (sets_more xs (set l c x) (suc c) i (omega arith) ∙ rw add-one)

-- as many as there are, or as there is room for
pub take_min : (xs : List ℕ) (n m : ℕ) → n ≡ min (length xs) m → take n xs ≡ take m xs
take_min xs n m e = go (dec_lt (length xs) m)
  where
    go : Dec (length xs < m) → take n xs ≡ take m xs
    go (yes k) = take_all n xs (omega arith) ∙ sym (take_all m xs (omega arith))
    go (no k) = let z : n ≡ m = omega arith in rw z

-- ---- a call takes the first line's bytes, and keeps them but for the line feed
abbrev scanned_to : Stream → List ℕ → ℕ → Fed
scanned_to s f n = pick (fed_at f n) (fed (ended (keeps s (take (n - 1) f))) n (Ok (Some (end_reply (keeps s (take (n - 1) f)))))) (fed (keeps s f) n (Ok None))

scanned : (f : List ℕ) (s : Stream) → scan s f ≡ scanned_to s f (first_length f)
unfolding scan keeps fed_at
scanned [] s = rw first-none
scanned (b ∷ f) s = rw (first_on b f) (go (eqb b line_feed) refl (scanned f (keep s b)))
  where
    -- a byte before those that the rest of the fragment gives
    rest : (f : List ℕ) → eqb b line_feed ≡ false → scan (keep s b) f ≡ scanned_to (keep s b) f (first_length f) → later (scan (keep s b) f) ≡ scanned_to s (b ∷ f) (suc (first_length f))
    rest [] q ih = rw (first-none, q)
    rest (c ∷ g) q ih = let h = first_some (c ∷ g) (omega arith) in rw ih (on (first_length (c ∷ g) - 1) (omega (arith, h)))
      where
        on : (m : ℕ) → first_length (c ∷ g) ≡ suc m → later (scanned_to (keep s b) (c ∷ g) (first_length (c ∷ g))) ≡ scanned_to s (b ∷ c ∷ g) (suc (first_length (c ∷ g)))
        on m e =
            let y : suc m - 1 ≡ m = omega arith in
            let z : suc (suc m) - 1 ≡ suc m = omega arith in
            rw (e, y, z, lt-ltb 0 (suc m) (omega arith), lt-ltb 0 (suc (suc m)) (omega arith)) (each (eqb (get_or (c ∷ g) m 0) line_feed))
          where
            each : (t : Bool) → later (pick t (fed (ended (keeps (keep s b) (take m (c ∷ g)))) (suc m) (Ok (Some (end_reply (keeps (keep s b) (take m (c ∷ g))))))) (fed (keeps (keep s b) (c ∷ g)) (suc m) (Ok None))) ≡ pick t (fed (ended (keeps (keep s b) (take m (c ∷ g)))) (suc (suc m)) (Ok (Some (end_reply (keeps (keep s b) (take m (c ∷ g))))))) (fed (keeps (keep s b) (c ∷ g)) (suc (suc m)) (Ok None))
            each true = refl
            each false = refl

    go : (t : Bool) → eqb b line_feed ≡ t → scan (keep s b) f ≡ scanned_to (keep s b) f (first_length f) → pick t (fed (ended s) 1 (Ok (Some (end_reply s)))) (later (scan (keep s b) f)) ≡ scanned_to s (b ∷ f) (pick t 1 (suc (first_length f)))
    go true q ih = rw q
    go false q ih = rest f q ih

pub within-line : (f : List ℕ) (n : ℕ) → n ≡ line_end f 0 → n ≤ length f
within-line f n e = omega (arith, first-end f, first_fits f)

pub fed-none : (f : List ℕ) (n : ℕ) → n ≡ 0 → false ≡ fed_at f n
unfolding fed_at
fed-none f n e = rw e

pub fed-past : (f : List ℕ) (n : ℕ) → length f < n → false ≡ fed_at f n
unfolding fed_at
fed-past f n h = let z : get_or f (n - 1) 0 ≡ 0 = get_or-eq_default f 0 (omega arith) in rw (lt-ltb 0 n (omega arith), z)

pub fed-last : (f : List ℕ) (n : ℕ) → (n ≡ 0 → ⊥) → eqb (get_or f (n - 1) 0) line_feed ≡ fed_at f n
unfolding fed_at
fed-last f n h = rw (lt-ltb 0 n (omega (arith, some)))
  where
    some : 0 < n
    some = positive n h
      where
        positive : (n : ℕ) → (n ≡ 0 → ⊥) → 0 < n
        positive zero h = absurd (h refl)
        positive (suc n) h = omega arith

pub fed-some : (f : List ℕ) (n : ℕ) → fed_at f n ≡ true → 0 < n
unfolding fed_at
fed-some f n e = ltb-true 0 n (both (ltb 0 n) _ e).0

-- in the code's room: the bytes kept, 0 for the last where it is a line feed
module _ (kept : List ℕ) (n : ℕ) (some : 0 < n) (room : n ≤ length kept) where
  size : length (take n kept) ≡ n
  size = length-take-le n kept room

  last : get_or (take n kept) (length (take n kept) - 1) 0 ≡ get_or kept (n - 1) 0
  last = ap (λ (k : ℕ). get_or (take n kept) (k - 1) 0) size ∙ get_or-take n kept (n - 1) 0 (omega arith)

  pub unended-none : (get_or kept (n - 1) 0 ≡ line_feed → ⊥) → take n kept ≡ unended (take n kept)
  unended-none f = sym (unended-same (take n kept) (λ e. f (sym last ∙ e)))

  pub unended-one : get_or kept (n - 1) 0 ≡ line_feed → take n (set kept (n - 1) 0) ≡ unended (take n kept)
  unended-one e =
      take-set-lt n kept (n - 1) 0 (omega arith)
      ∙ ap (λ (k : ℕ). set (take n kept) (k - 1) 0) (sym size)
      ∙ sym (unended-fed (take n kept) (last ∙ e))

-- ---- for the code: what is decided first is the part of the state that costs nothing to look at
over-full : (s : Stream) → s.finished ≡ false → longest_line < s.count → sound s ≡ false
unfolding sound
over-full s e h = rw (e, lt-leb s.count longest_line h)

pub stopped : (s : Stream) (f : List ℕ) → (s.finished || ltb longest_line s.count) ≡ true → (unsound s ≡ feed_of s f) × (unsound s ≡ finish_of s)
stopped s f e = let z = go s.finished (ltb longest_line s.count) refl refl e in (sym (feed-state s f z), sym (finish-state s z))
  where
    go : (a b : Bool) → s.finished ≡ a → ltb longest_line s.count ≡ b → (a || b) ≡ true → sound s ≡ false
    go true b p q e = not_going s p
    go false true p q e = over-full s p (ltb-true longest_line s.count q)
    go false false p q e = absurd (let z : ◌≡◌ {A = ℕ} 0 1 = cc in omega arith)

pub record Going (s : Stream) : Type 0 where
  pub going : s.finished ≡ false
  pub count : s.count ≤ longest_line

pub goes_on : (s : Stream) → (s.finished || ltb longest_line s.count) ≡ false → Going s
goes_on s e = go s.finished (ltb longest_line s.count) refl refl e
  where
    go : (a b : Bool) → s.finished ≡ a → ltb longest_line s.count ≡ b → (a || b) ≡ false → Going s
    go true b p q e = absurd (let z : ◌≡◌ {A = ℕ} 0 1 = cc in omega arith)
    go false true p q e = absurd (let z : ◌≡◌ {A = ℕ} 0 1 = cc in omega arith)
    go false false p q e = record { going = p; count = ltb-false longest_line s.count q }

module _ (s : Stream) (g : Going s) where
  pub sound-as : (b : Bool) → b ≡ sound_standing s.standing → sound s ≡ b
  unfolding sound
  sound-as b e = rw (g.going, le-leb s.count longest_line g.count) (sym e)

  -- a line left open at the finish
  pub finished-by : (r : Fed) → (s.count ≡ 0 → ⊥) → r ≡ ends_with s (unended (held s)) 0 true → r ≡ finish_of s
  unfolding finish_of
  finished-by r z e = rw (sound-as (sound_standing s.standing) refl, ne_eqb s.count 0 z) e

  -- ---- a call with a fragment, whose first line has n bytes
  module _ (f : List ℕ) (n : ℕ) (e : n ≡ line_end f 0) where
    first : n ≡ first_length f
    first = e ∙ first-end f

    kept-all : (xs : List ℕ) → keeps s xs ≡ state_of s.standing (min (s.count + length xs) 200) (sets s.kept s.count (take (200 - s.count) xs)) false
    kept-all xs = keeps-in s.standing s.finished xs s.count s.kept g.count ∙ ap (λ (b : Bool). state_of s.standing (min (s.count + length xs) 200) (sets s.kept s.count (take (200 - s.count) xs)) b) g.going

    scan-at : scan s f ≡ scanned_to s f n
    scan-at = rw first (scanned f s)

    -- the room after so many bytes more
    module _ (long : length s.kept ≡ 200) (xs : List ℕ) (c : ℕ) (kept : List ℕ) (ec : c ≡ min (s.count + length xs) (length s.kept)) (ek : kept ≡ sets s.kept s.count (take (length s.kept - s.count) xs)) where
      kept-so : keeps s xs ≡ state_of s.standing c kept false
      kept-so = kept-all xs ∙ sym (rw (ec, ek, long))

      -- a line ends
      pub fed-line : fed_at f n ≡ true → xs ≡ take (n - 1) f → (r : Fed) → r ≡ ends_with s (closing (state_of s.standing c kept false)) n false → r ≡ feed_of s f
      unfolding feed_of ended end_reply
      fed-line q x r er =
          let z : keeps s (take (n - 1) f) ≡ state_of s.standing c kept false = rw (← x) kept-so in
          let y : scan s f ≡ fed (ended (state_of s.standing c kept false)) n (Ok (Some (end_reply (state_of s.standing c kept false)))) = scan-at ∙ rw (q, z) in
          rw (sound-as (sound_standing s.standing) refl, y) er

      -- or none does
      pub fed-open : fed_at f n ≡ false → xs ≡ f → sound s ≡ true → fed (state_of s.standing c kept false) n (Ok None) ≡ feed_of s f
      fed-open q x e =
          let z : keeps s f ≡ state_of s.standing c kept false = rw (← x) kept-so in
          let y : scan s f ≡ fed (state_of s.standing c kept false) n (Ok None) = scan-at ∙ rw (q, z) in
          sym (feed-sound s f e ∙ y)

-- the answer to a line, as the rules gave it
module _ (s : Stream) (l : List ℕ) (n : ℕ) (fin : Bool) (a : Answered) (e : a ≡ answered_to s.standing l) where
  pub ended-unsound : a.response ≡ None → unsound s ≡ ends_with s l n fin
  ended-unsound q = rw (answered-unsound s.standing l a e q)

  pub ended-replied : (r : Reply) → a.response ≡ Some r → fed (between a.standing fin) n (Ok (Some r)) ≡ ends_with s l n fin
  ended-replied r q = let h = answered-replied s.standing l a e r q in rw (h.0, h.1, h.2)
