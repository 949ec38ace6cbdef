-- The second look at a bad line, field by field: what the code's functions keep. Assumes nothing.
use Rattle.std.proofs.Common.{◌≡◌, ℕ, zero, suc, ◌+◌, ◌-◌, ◌<◌, ◌≤◌, min, Bool, true, false, not, eqb, leb, List, [], ◌∷◌, ◌++◌, length, get_or, take, drop, sym, refl, ap, ◌∙◌, add-one, arith, length-append, eq-eqb, ne_eqb, le-leb}
use mathlib.Core.Option.{Option, none, some}
use lib.ListN.{get_elem?}
use Rattle.std.specs.declared.option.Option as declared
use Rattle.std.specs.declared.option.Option.TheVariants.{Some, None}
use Rattle.std.specs.Option.{option_or}
use Rattle.std.specs.Bool.{then_some}
use borrow.Author.Tests.{lt-leb}
use Rattle.refusal.specs.Numbers as refusal
use Rattle.refusal.specs.Order.{pick}
use Rattle.line.specs.Bytes.{line_feed, letter_s}
use Rattle.line.specs.Fields.{longest_line, body, fields, front, taken, head, single, one_of}
use Rattle.line.specs.Malformed.{Class, letters, number, numbers, byte_of, kind_of, unread, field_fault, offending, end_of, fault, fields_fault}
use Rattle.line.specs.Reading.{from, fronts, Tells, Got, Framed, itself}
use Rattle.line.specs.SecondLook.{classes_of, first_fault, Passed, place_told, Within, earlier, FirstWrong, Looked}
use Rattle.line.proofs.Walk as W
use Rattle.line.proofs.Names.{fronts-snoc}

-- ---- the classes: so many numbers
pub numbers-at : (n i : ℕ) → i < n → get_elem? (numbers n) i ≡ some number
numbers-at zero i h = absurd (omega arith)
numbers-at (suc n) zero h = refl
numbers-at (suc n) (suc i) h = numbers-at n i (omega arith)

pub numbers-past : (n i : ℕ) → n ≤ i → get_elem? (numbers n) i ≡ none
numbers-past zero i h = refl
numbers-past (suc n) zero h = absurd (omega arith)
numbers-past (suc n) (suc i) h = numbers-past n i (omega arith)

-- a field after the first
pub later : (c : Class) (cs : List Class) (i j : ℕ) → i ≡ j + 1 → get_elem? (c ∷ cs) i ≡ get_elem? cs j
later c cs i j e = rw (e, add-one j)

-- ---- where a field ends: bytes that are no tab, so far
pub record Begun (s : List ℕ) (at i : ℕ) : Type 0 where
  pub bytes : List ℕ
  pub there : from s at ≡ fronts bytes (from s i)
  pub place : i ≡ at + length bytes
  pub inside : i ≤ length s

module _ (s : List ℕ) (at : ℕ) where
  pub begun : at ≤ length s → Begun s at at
  unfolding fronts
  begun h = record { bytes = []; there = refl; place = omega arith; inside = h }

  pub begun-on : (i : ℕ) → Begun s at i → i < length s → (get_or s i 0 ≡ 9 → ⊥) → Begun s at (i + 1)
  begun-on i b h e =
      record {
        bytes = b.bytes ++ (get_or s i 0 ∷ []);
        there = b.there ∙ ap (fronts b.bytes) (W.from_byte s i h e) ∙ sym (fronts-snoc b.bytes (get_or s i 0) (from s (i + 1)));
        place = omega (arith, b.place, length-append b.bytes (get_or s i 0 ∷ []));
        inside = omega arith;
      }

  fronts-end : (p : List ℕ) (fs : List (List ℕ)) → fronts p ([] ∷ fs) ≡ p ∷ fs
  unfolding fronts
  fronts-end [] fs = refl
  fronts-end (x ∷ p) fs = ap (front x) (fronts-end p fs)

  begun-done : (i : ℕ) → Begun s at i → from s i ≡ [] ∷ from s (i + 1) → Passed s at (i + 1)
  begun-done i b e =
      record {
        bytes = b.bytes;
        there = b.there ∙ ap (fronts b.bytes) e ∙ fronts-end b.bytes (from s (i + 1));
        place = omega (arith, b.place);
        inside = omega (arith, b.inside);
      }

  pub begun-tab : (i : ℕ) → Begun s at i → i < length s → get_or s i 0 ≡ 9 → Passed s at (i + 1)
  begun-tab i b h e = begun-done i b (W.from-tab s i h e)

  pub begun-end : (i : ℕ) → Begun s at i → length s ≤ i → Passed s at (i + 1)
  begun-end i b h = begun-done i b (W.from_end s i (omega (arith, b.inside)))

-- ---- the kind, out of the second field
module _ {s : List ℕ} {second b next : ℕ} (p : Passed s 0 second) (g : Got s itself single second b next) where
  by-second : (r : ℕ) → ((o : Option ℕ) (fs : List (List ℕ)) → Tells s itself (taken o fs) b next → r ≡ byte_of o) → (length s + 1 < next → r ≡ 0)
      → r ≡ kind_of (fields s)
  by-second r on off = rw (← W.from_start s, p.there) (go (from s second) g.tells)
    where
      go : (fs : List (List ℕ)) → Tells s itself (head single fs) b next → r ≡ kind_of (p.bytes ∷ fs)
      go [] t = off t
      go (f ∷ fs) t = on (single f) fs t

  pub kind-read : next ≤ length s + 1 → b ≡ kind_of (fields s)
  kind-read h = by-second b on (λ l. absurd (omega arith))
    where
      on : (o : Option ℕ) (fs : List (List ℕ)) → Tells s itself (taken o fs) b next → b ≡ byte_of o
      on none fs t = absurd (omega arith)
      on (some x) fs t = t.0

  pub kind-none : length s + 1 < next → 0 ≡ kind_of (fields s)
  kind-none h = by-second 0 on (λ l. refl)
    where
      on : (o : Option ℕ) (fs : List (List ℕ)) → Tells s itself (taken o fs) b next → 0 ≡ byte_of o
      on none fs t = refl
      on (some x) fs t = absurd (omega (arith, t.1))

-- ---- a field's fault, by what its reader tells
pub faulted : {B C : Type 0} {s : List ℕ} {image : B → C} {read : List ℕ → Option B} {at : ℕ} {v : C} {next : ℕ} (c : Class) (n : ℕ)
    → Got s image read at v next → at ≤ length s → ((f : List ℕ) → field_fault c f ≡ unread n (read f))
    → pick (leb next (length s + 1)) 0 n ≡ first_fault (some c) (from s at)
faulted {s = s} {image} {read} {at} {v} {next} c n g h same =
    let x = W.field_at s at h in
    rw (x.is, same x.first) (go (read x.first) x.rest (rw x.is at g.tells))
  where
    go : (o : Option _) (fs : List (List ℕ)) → Tells s image (taken o fs) v next → pick (leb next (length s + 1)) 0 n ≡ unread n o
    go none fs t = rw (lt-leb next (length s + 1) t)
    go (some b) fs t = rw (le-leb next (length s + 1) t.1)

-- ---- whether it is bad as its class
pub bad : {B C : Type 0} {s : List ℕ} {image : B → C} {read : List ℕ → Option B} {at : ℕ} {v : C} {next : ℕ} (c : Class) (n : ℕ) → 0 < n
    → Got s image read at v next → at ≤ length s → ((f : List ℕ) → field_fault c f ≡ unread n (read f))
    → not (leb next (length s + 1)) ≡ eqb (first_fault (some c) (from s at)) n
bad {s = s} {next = next} c n positive g h same = rw (sym (faulted c n g h same)) (go (leb next (length s + 1)))
  where
    go : (t : Bool) → not t ≡ eqb (pick t 0 n) n
    go true = sym (ne_eqb 0 n (λ e. omega arith))
    go false = sym (eq-eqb n n refl)

-- ---- the walk over the fields: a place found before, or what is found from here on
pub offending-none : (n at : ℕ) (cs : List Class) → offending n at cs [] ≡ none
unfolding offending
offending-none n at [] = refl
offending-none n at (c ∷ cs) = refl

offending-on : (n at : ℕ) → 0 < n → (cs : List Class) (i : ℕ) (f : List ℕ) (fs : List (List ℕ))
    → offending n at (drop i cs) (f ∷ fs) ≡ pick (eqb (first_fault (get_elem? cs i) (f ∷ fs)) n) (some at) (offending n (at + length f + 1) (drop (suc i) cs) fs)
unfolding offending
offending-on n at h [] zero f fs = rw (ne_eqb 0 n (λ e. omega arith))
offending-on n at h [] (suc i) f fs = rw (ne_eqb 0 n (λ e. omega arith))
offending-on n at h (c ∷ cs) zero f fs = refl
offending-on n at h (c ∷ cs) (suc i) f fs = offending-on n at h cs i f fs

module _ (n : ℕ) (positive : 0 < n) (s : List ℕ) (cs : List Class) (at i : ℕ) {next : ℕ} (h : at ≤ length s) (p : Passed s at next) where
  held_on : (before : declared.Option ℕ) {after : declared.Option ℕ} {wrong : Bool} → wrong ≡ eqb (first_fault (get_elem? cs i) (from s at)) n
      → after ≡ option_or before (then_some wrong at)
      → earlier (place_told after) (offending n next (drop (i + 1) cs) (from s next)) ≡ earlier (place_told before) (offending n at (drop i cs) (from s at))
  held_on before {after} {wrong} w q =
      let e : offending n at (drop i cs) (from s at) ≡ pick wrong (some at) (offending n next (drop (i + 1) cs) (from s next)) =
      rw (w, p.there, add-one i)
      (offending-on n at positive cs i p.bytes (from s next)
      ∙ ap (λ (k : ℕ). pick (eqb (first_fault (get_elem? cs i) (p.bytes ∷ from s next)) n) (some at) (offending n k (drop (suc i) cs) (from s next)))
      (sym p.place)) in
      rw (e, q) (go before wrong)
    where
      rest : Option ℕ
      rest = offending n next (drop (i + 1) cs) (from s next)

      go : (o : declared.Option ℕ) (t : Bool) → earlier (place_told (option_or o (then_some t at))) rest ≡ earlier (place_told o) (pick t (some at) rest)
      go (Some x) t = refl
      go None true = refl
      go None false = refl

-- what is found is within the line
within-then : (s : List ℕ) (at : ℕ) → at ≤ length s → (wrong : Bool) → Within s (then_some wrong at)
within-then s at h true = h
within-then s at h false = tt

within_or : (s : List ℕ) (before next : declared.Option ℕ) → Within s before → Within s next → Within s (option_or before next)
within_or s None next w v = v
within_or s (Some x) next w v = w

pub record Looking (s : List ℕ) (cs : List Class) (id plain : declared.Option ℕ) (count at : ℕ) : Type 0 where
  pub id-at : earlier (place_told id) (offending refusal.id at (drop count cs) (from s at)) ≡ offending refusal.id 0 cs (from s 0)
  pub plain_at : earlier (place_told plain) (offending refusal.plain at (drop count cs) (from s at)) ≡ offending refusal.plain 0 cs (from s 0)
  pub id-within : Within s id
  pub plain_within : Within s plain
  pub inside : at ≤ length s + 1
  pub few : count ≤ at

pub looking : (s : List ℕ) (cs : List Class) → Looking s cs None None 0 0
looking s cs = record { id-at = refl; plain_at = refl; id-within = tt; plain_within = tt; inside = omega arith; few = omega arith }

pub looking-on : {s : List ℕ} {cs : List Class} {id plain id' plain' : declared.Option ℕ} {count at next : ℕ} {bad-id bad-number : Bool} → Looking s cs id plain count at
    → at ≤ length s → Passed s at next
    → bad-id ≡ eqb (first_fault (get_elem? cs count) (from s at)) refusal.id → id' ≡ option_or id (then_some bad-id at)
    → bad-number ≡ eqb (first_fault (get_elem? cs count) (from s at)) refusal.plain → plain' ≡ option_or plain (then_some bad-number at)
    → Looking s cs id' plain' (count + 1) next
looking-on {s} {cs} {id} {plain} {count = count} {at} {bad-id = bad-id} {bad-number} k h p w i v n =
    record {
      id-at = held_on refusal.id (omega arith) s cs at count h p id w i ∙ k.id-at;
      plain_at = held_on refusal.plain (omega arith) s cs at count h p plain v n ∙ k.plain_at;
      id-within = rw i (within_or s id _ k.id-within (within-then s at h bad-id));
      plain_within = rw n (within_or s plain _ k.plain_within (within-then s at h bad-number));
      inside = p.inside;
      few = omega (arith, k.few, p.place);
    }

pub looked : {s : List ℕ} {cs : List Class} {id plain : declared.Option ℕ} {count at : ℕ} → Looking s cs id plain count at → length s < at → Looked s cs id plain
looked {s} {cs} {id} {plain} {count} {at} k h =
    record { id-at = closed refusal.id id k.id-within k.id-at; plain_at = closed refusal.plain plain k.plain_within k.plain_at }
  where
    last : (o : declared.Option ℕ) → earlier (place_told o) none ≡ place_told o
    last None = refl
    last (Some x) = refl

    closed : (n : ℕ) (o : declared.Option ℕ) → Within s o → earlier (place_told o) (offending n at (drop count cs) (from s at)) ≡ offending n 0 cs (from s 0) → FirstWrong n s 0 cs o
    closed n o w e = record { is = sym (last o) ∙ (rw (W.from_past s at h, offending-none n at (drop count cs)) at e); within = w }

-- what was found, and that nothing was
module _ {n : ℕ} {s : List ℕ} {cs : List Class} {o : declared.Option ℕ} (w : FirstWrong n s 0 cs o) where
  seen : {place : ℕ} → o ≡ Some place → offending n 0 cs (fields s) ≡ some place
  seen e = rw (← W.from_start s) (sym w.is ∙ ap place_told e)

  unseen : o ≡ None → offending n 0 cs (fields s) ≡ none
  unseen e = rw (← W.from_start s) (sym w.is ∙ ap place_told e)

  pub place_within : {place : ℕ} → o ≡ Some place → place ≤ length s
  place_within e = rw e at w.within

-- ---- what was found decides
module _ {s : List ℕ} {cs : List Class} {letter : declared.Option ℕ} (w : FirstWrong refusal.letter s 0 cs letter) (end : ℕ) where
  pub is-letter : {place : ℕ} → letter ≡ Some place → fault refusal.letter place ≡ fields_fault cs end (fields s)
  unfolding fields_fault
  is-letter l = rw (seen w l)

  module _ (l : letter ≡ None) where
    pub is-count : eqb (length (fields s)) (length cs) ≡ false → fault refusal.count end ≡ fields_fault cs end (fields s)
    unfolding fields_fault
    is-count n = rw (unseen w l, n)

    module _ (n : eqb (length (fields s)) (length cs) ≡ true) {id plain : declared.Option ℕ} (k : Looked s cs id plain) where
      pub is-id : {place : ℕ} → id ≡ Some place → fault refusal.id place ≡ fields_fault cs end (fields s)
      unfolding fields_fault
      is-id i = rw (unseen w l, n, seen k.id-at i)

      module _ (i : id ≡ None) where
        pub is_plain : {place : ℕ} → plain ≡ Some place → fault refusal.plain place ≡ fields_fault cs end (fields s)
        unfolding fields_fault
        is_plain p = rw (unseen w l, n, unseen k.id-at i, seen k.plain_at p)

        pub is_none : plain ≡ None → fault 0 0 ≡ fields_fault cs end (fields s)
        unfolding fields_fault
        is_none p = rw (unseen w l, n, unseen k.id-at i, unseen k.plain_at p)

-- the shape, by the kind of a step; no other line's shape goes by it
pub any-kind : (mark k l : ℕ) → (mark ≡ letter_s → ⊥) → classes_of mark k ≡ classes_of mark l
any-kind mark k l n = rw (ne_eqb mark letter_s n)

pub by_shape : {cs ds : List Class} (end : ℕ) (fs : List (List ℕ)) → cs ≡ ds → fields_fault cs end fs ≡ fields_fault ds end fs
by_shape end fs e = ap (λ (cs : List Class). fields_fault cs end fs) e

-- ---- the line's frame
module _ (line : List ℕ) where
  -- the length without a line feed, up to 200
  abbrev up_to : Bool → ℕ
  up_to t = min (pick t (length line - 1) (length line)) longest_line

  pub end_empty : length line ≡ 0 → 0 ≡ end_of line
  unfolding end_of
  end_empty h = go (eqb (get_or line (length line - 1) 0) line_feed)
    where
      go : (t : Bool) → 0 ≡ up_to t
      go true = omega arith
      go false = omega arith

  pub end-long : 200 < length line → 200 ≡ end_of line
  unfolding end_of
  end-long h = go (eqb (get_or line (length line - 1) 0) line_feed)
    where
      go : (t : Bool) → 200 ≡ up_to t
      go true = omega arith
      go false = omega arith

  pub end-feed : length line ≤ 200 → get_or line (length line - 1) 0 ≡ 10 → length line - 1 ≡ end_of line
  unfolding end_of
  end-feed h e = rw (eq-eqb (get_or line (length line - 1) 0) 10 e) (omega arith)

  pub end-open : length line ≤ 200 → (get_or line (length line - 1) 0 ≡ 10 → ⊥) → length line ≡ end_of line
  unfolding end_of
  end-open h e = rw (ne_eqb (get_or line (length line - 1) 0) 10 e) (omega arith)

  module _ (end : ℕ) (framed : Framed line end (body line)) where
    pub body-some : end < length line → body line ≡ some (take end line)
    body-some h = go (body line) framed
      where
        go : (o : Option (List ℕ)) → Framed line end o → o ≡ some (take end line)
        go none f = absurd (omega arith)
        go (some s) f = ap some (sym f.1)

    pub body-none : length line ≤ end → body line ≡ none
    body-none h = go (body line) framed
      where
        go : (o : Option (List ℕ)) → Framed line end o → o ≡ none
        go none f = refl
        go (some s) f = absurd (omega arith)

-- ---- a line that begins with no letter which its program reads
no-letter : (o : Option ℕ) → unread refusal.letter (one_of [] o) ≡ refusal.letter
no-letter none = refl
no-letter (some b) = refl

pub strange-fields : (s : List ℕ) (end : ℕ) → fault refusal.letter 0 ≡ fields_fault (letters [] ∷ []) end (fields s)
unfolding fields_fault offending
strange-fields s end =
    let x = W.field_at s 0 (omega arith) in
    rw (← W.from_start s, x.is, no-letter (single x.first))
