-- Walking along a line: what stands at a place, and how readings of its fields go one after the other.
use Rattle.std.proofs.Common.{◌≡◌, ℕ, true, false, eqb, suc, ◌+◌, ◌-◌, ◌<◌, ◌≤◌, List, [], ◌∷◌, length, get_or, take, drop, sym, refl, ap, ◌∙◌, add-one, arith, drop_of_length-le, drop-cons, le-ltb, lt-ltb, eq-eqb, ne_eqb, le-leb}
use Rattle.std.specs.List.{list_any}
use mathlib.Core.Option.{Option, none, some}
use native.Mathlib.Decide.{dec_lt, ℕ_discrete}
use borrow.Author.Tests.{lt-leb}
use Rattle.line.specs.Fields.{body, fields, front, Form, ends, field, into, taken, head, onward, filled, single, one_of, letter_of}
use Rattle.line.specs.Reading.{from, Tells, Got, TellsLine, Told, empty, itself}

-- ---- what stands at a place
pub from_past : (s : List ℕ) (at : ℕ) → length s < at → from s at ≡ []
unfolding from
from_past s at h = rw (lt-leb at (length s) h)

pub from-here : (s : List ℕ) (at : ℕ) → at ≤ length s → from s at ≡ fields (drop at s)
unfolding from
from-here s at h = rw (le-leb at (length s) h)

pub from_start : (s : List ℕ) → from s 0 ≡ fields s
from_start s = from-here s 0 (omega arith)

fields-tab : (b : ℕ) (t : List ℕ) → b ≡ 9 → fields (b ∷ t) ≡ [] ∷ fields t
unfolding fields
fields-tab b t e = rw (eq-eqb b 9 e)

fields-byte : (b : ℕ) (t : List ℕ) → (b ≡ 9 → ⊥) → fields (b ∷ t) ≡ front b (fields t)
unfolding fields
fields-byte b t e = rw (ne_eqb b 9 e)

fields-none : fields [] ≡ [] ∷ []
unfolding fields
fields-none = refl

pub from_end : (s : List ℕ) (at : ℕ) → at ≡ length s → from s at ≡ [] ∷ from s (at + 1)
from_end s at e =
    from-here s at (omega arith) ∙ ap fields (drop_of_length-le s {i = at} (omega arith)) ∙ fields-none
    ∙ ap (λ (l : List (List ℕ)). [] ∷ l) (sym (from_past s (at + 1) (omega arith)))

next-fields : (s : List ℕ) (at : ℕ) → at < length s → fields (drop (suc at) s) ≡ from s (at + 1)
next-fields s at h = rw (← add-one at) (sym (from-here s (at + 1) (omega arith)))

pub from-tab : (s : List ℕ) (at : ℕ) → at < length s → get_or s at 0 ≡ 9 → from s at ≡ [] ∷ from s (at + 1)
from-tab s at h e =
    from-here s at (omega arith) ∙ ap fields (drop-cons s at 0 h) ∙ fields-tab (get_or s at 0) (drop (suc at) s) e
    ∙ ap (λ (l : List (List ℕ)). [] ∷ l) (next-fields s at h)

pub from_byte : (s : List ℕ) (at : ℕ) → at < length s → (get_or s at 0 ≡ 9 → ⊥) → from s at ≡ front (get_or s at 0) (from s (at + 1))
from_byte s at h e =
    from-here s at (omega arith) ∙ ap fields (drop-cons s at 0 h) ∙ fields-byte (get_or s at 0) (drop (suc at) s) e
    ∙ ap (front (get_or s at 0)) (next-fields s at h)

-- ---- a field's reading, by what stands at its place
-- there is a field at a place up to the end
pub record Field (s : List ℕ) (at : ℕ) : Type 0 where
  pub first : List ℕ
  pub rest : List (List ℕ)
  pub is : from s at ≡ first ∷ rest

front-field : (b : ℕ) (fs : List (List ℕ)) → (f : List ℕ) × ((r : List (List ℕ)) × (front b fs ≡ f ∷ r))
front-field b [] = (b ∷ [], ([], refl))
front-field b (f ∷ fs) = (b ∷ f, (fs, refl))

pub field_at : (s : List ℕ) (at : ℕ) → at ≤ length s → Field s at
field_at s at h = go (dec_lt at (length s)) (ℕ_discrete (get_or s at 0) 9)
  where
    go : Dec (at < length s) → Dec (get_or s at 0 ≡ 9) → Field s at
    go (yes l) (yes e) = record { first = []; rest = from s (at + 1); is = from-tab s at l e }
    go (yes l) (no e) =
        let x = front-field (get_or s at 0) (from s (at + 1)) in
        record { first = x.0; rest = x.1.0; is = from_byte s at l e ∙ x.1.1 }
    go (no l) e = record { first = []; rest = from s (at + 1); is = from_end s at (omega arith) }

module _ {B : Type 0} (s : List ℕ) (at : ℕ) (read : List ℕ → Option B) where
  -- a byte, and then the rest of the field
  pub head-on : (rest : List ℕ → Option B) → at < length s → (get_or s at 0 ≡ 9 → ⊥) → ((f : List ℕ) → read (get_or s at 0 ∷ f) ≡ rest f) → head read (from s at) ≡ head rest (from s (at + 1))
  head-on rest h e on =
      let x = field_at s (at + 1) (omega arith) in
      rw (from_byte s at h e, x.is) (ap (λ (o : Option B). taken o x.rest) (on x.first))

  -- a byte that such a field cannot begin with
  pub head-off : at < length s → (get_or s at 0 ≡ 9 → ⊥) → ((f : List ℕ) → read (get_or s at 0 ∷ f) ≡ none) → head read (from s at) ≡ none
  head-off h e off =
      let x = field_at s (at + 1) (omega arith) in
      rw (from_byte s at h e, x.is) (ap (λ (o : Option B). taken o x.rest) (off x.first))

  -- two readings that agree on such fields
  pub head-same : (other : List ℕ → Option B) → at < length s → read [] ≡ other [] → ((f : List ℕ) → read (get_or s at 0 ∷ f) ≡ other (get_or s at 0 ∷ f)) → head read (from s at) ≡ head other (from s at)
  head-same other h n on = go (ℕ_discrete (get_or s at 0) 9)
    where
      go : Dec (get_or s at 0 ≡ 9) → head read (from s at) ≡ head other (from s at)
      go (yes e) = rw (from-tab s at h e) (ap (λ (o : Option B). taken o (from s (at + 1))) n)
      go (no e) =
          let x = field_at s (at + 1) (omega arith) in
          rw (from_byte s at h e, x.is) (ap (λ (o : Option B). taken o x.rest) (on x.first))

  pub head-past : length s < at → head read (from s at) ≡ none
  head-past h = rw (from_past s at h)

  -- the field's end, or what cannot stand there
  pub head-close : {C : Type 0} {image : B → C} {v : C} {next : ℕ} (w : B)
      → Got s itself empty at tt next → read [] ≡ some w → v ≡ image w → (at < length s → (get_or s at 0 ≡ 9 → ⊥) → (f : List ℕ) → read (get_or s at 0 ∷ f) ≡ none)
      → Got s image read at v next
  head-close {C} {image} {v} {next} w g r i off = record { tells = go (dec_lt at (length s)) (ℕ_discrete (get_or s at 0) 9) (dec_lt (length s) at) }
    where
      ended : from s at ≡ [] ∷ from s (at + 1) → Tells s image (head read (from s at)) v next
      ended e =
          let k : Tells s itself (head empty ([] ∷ from s (at + 1))) tt next = rw e at g.tells in
          rw (e, r) (i, k.1, k.2)

      go : Dec (at < length s) → Dec (get_or s at 0 ≡ 9) → Dec (length s < at) → Tells s image (head read (from s at)) v next
      go (yes l) (yes e) m = ended (from-tab s at l e)
      go (yes l) (no e) m =
          let x = field_at s (at + 1) (omega arith) in
          rw (from_byte s at l e, x.is, off l e x.first) (rw (from_byte s at l e, x.is) at g.tells)
      go (no l) e (yes m) = rw (from_past s at m) (rw (from_past s at m) at g.tells)
      go (no l) e (no m) = ended (from_end s at (omega arith))

  -- no field there, or nothing in it
  pub head-nothing : (at < length s → get_or s at 0 ≡ 9) → read [] ≡ none → head read (from s at) ≡ none
  head-nothing e n = go (dec_lt at (length s)) (dec_lt (length s) at)
    where
      ended : from s at ≡ [] ∷ from s (at + 1) → head read (from s at) ≡ none
      ended q = rw (q, n)

      go : Dec (at < length s) → Dec (length s < at) → head read (from s at) ≡ none
      go (yes l) m = ended (from-tab s at l (e l))
      go (no l) (yes m) = head-past m
      go (no l) (no m) = ended (from_end s at (omega arith))

-- ---- readings that tell
module _ {B C : Type 0} {s : List ℕ} {image : B → C} {read : List ℕ → Option B} {at : ℕ} {v : C} {next : ℕ} where
  pub got-none : head read (from s at) ≡ none → length s + 1 < next → Got s image read at v next
  got-none e h = record { tells = rw e h }

  -- a byte more in front
  pub onto : {rest : List ℕ → Option B} → Got s image rest (at + 1) v next → at < length s → (get_or s at 0 ≡ 9 → ⊥) → ((f : List ℕ) → read (get_or s at 0 ∷ f) ≡ rest f) → Got s image read at v next
  onto {rest} g h e on = record { tells = rw (head-on s at read rest h e on) g.tells }

  -- what a bad field tells, of a field that is there no more
  pub lost : Got s image read at v next → length s + 1 < at → length s + 1 < next
  lost g h = rw (from_past s at (omega arith)) at g.tells

-- a bad field makes the fields after it bad
pub lost-on : {B C : Type 0} {s : List ℕ} {image : B → C} {read : List ℕ → Option B} {at : ℕ} {v : C} {next last : ℕ}
    → Got s image read at v next → (length s + 1 < next → length s + 1 < last) → length s + 1 < at → length s + 1 < last
lost-on g k h = k (lost g h)

-- the field ends here
pub ends-here : {s : List ℕ} {at : ℕ} → from s at ≡ [] ∷ from s (at + 1) → at ≤ length s → Got s itself empty at tt (at + 1)
ends-here {s} {at} e h = record { tells = rw e (refl, omega arith, refl) }

-- a field of one byte, out of some
module _ {s : List ℕ} {at b next : ℕ} (ls : List ℕ) (g : Got s itself single at b next) where
  pub sift : {C : Type 0} {image : ℕ → C} {v : C} → one_of ls (some b) ≡ some b → v ≡ image b → Got s image (letter_of ls) at v next
  sift {image = image} {v} e i = record { tells = go (from s at) g.tells }
    where
      by : (o : Option ℕ) (fs : List (List ℕ)) → Tells s itself (taken o fs) b next → Tells s image (taken (one_of ls o) fs) v next
      by none fs t = t
      by (some x) fs t = rw (ap (λ (y : ℕ). one_of ls (some y)) (sym t.0) ∙ e) (i, t.1, t.2)

      go : (fs : List (List ℕ)) → Tells s itself (head single fs) b next → Tells s image (head (letter_of ls) fs) v next
      go [] t = t
      go (f ∷ fs) t = by (single f) fs t

  pub sift-off : {C : Type 0} {image : ℕ → C} {v : C} {last : ℕ} → one_of ls (some b) ≡ none → length s + 1 < last → Got s image (letter_of ls) at v last
  sift-off {image = image} {v} {last} e h = record { tells = go (from s at) g.tells }
    where
      by : (o : Option ℕ) (fs : List (List ℕ)) → Tells s itself (taken o fs) b next → Tells s image (taken (one_of ls o) fs) v last
      by none fs t = h
      by (some x) fs t = rw (ap (λ (y : ℕ). one_of ls (some y)) (sym t.0) ∙ e) h

      go : (fs : List (List ℕ)) → Tells s itself (head single fs) b next → Tells s image (head (letter_of ls) fs) v last
      go [] t = h
      go (f ∷ fs) t = by (single f) fs t

-- a byte that is, or is not, one of some letters
pub one-is : (ls : List ℕ) (b : ℕ) → list_any (λ l. eqb l b) ls ≡ true → one_of ls (some b) ≡ some b
one-is [] b e = cc
one-is (l ∷ ls) b e = go (ℕ_discrete b l) (one-is ls b)
  where
    go : Dec (b ≡ l) → (list_any (λ l. eqb l b) ls ≡ true → one_of ls (some b) ≡ some b) → one_of (l ∷ ls) (some b) ≡ some b
    go (yes z) on = rw (eq-eqb b l z)
    go (no n) on = rw (ne_eqb b l n) (on (rw (ne_eqb l b (λ z. n (sym z))) at e))

pub one-is_not : (ls : List ℕ) (b : ℕ) → list_any (λ l. eqb l b) ls ≡ false → one_of ls (some b) ≡ none
one-is_not [] b e = refl
one-is_not (l ∷ ls) b e = go (ℕ_discrete b l) (one-is_not ls b)
  where
    go : Dec (b ≡ l) → (list_any (λ l. eqb l b) ls ≡ false → one_of ls (some b) ≡ none) → one_of (l ∷ ls) (some b) ≡ none
    go (yes z) on = let f : true ≡ false = rw (eq-eqb l b (sym z)) at e in cc
    go (no n) on = rw (ne_eqb b l n) (on (rw (ne_eqb l b (λ z. n (sym z))) at e))

-- a line's bytes before its line feed
module _ (line : List ℕ) where
  pub framed-empty : length line ≡ 0 → body line ≡ none
  unfolding body
  framed-empty h = rw (le-ltb 0 (length line) (omega arith))

  pub framed-long : 200 < length line → body line ≡ none
  unfolding body
  framed-long h = rw (lt-ltb 0 (length line) (omega arith), lt-leb (length line) 200 h)

  pub framed : 0 < length line → length line ≤ 200 → get_or line (length line - 1) 0 ≡ 10 → body line ≡ some (take (length line - 1) line)
  unfolding body
  framed p h e = rw (lt-ltb 0 (length line) p, le-leb (length line) 200 h, eq-eqb (get_or line (length line - 1) 0) 10 e)

  pub framed-open : 0 < length line → length line ≤ 200 → (get_or line (length line - 1) 0 ≡ 10 → ⊥) → body line ≡ none
  unfolding body
  framed-open p h e = rw (lt-ltb 0 (length line) p, le-leb (length line) 200 h, ne_eqb (get_or line (length line - 1) 0) 10 e)

-- ---- a form's fields, one after the other
module _ {A C : Type 0} {s : List ℕ} {image : A → C} {v : C} {last : ℕ} where
  -- a field, and the fields after it
  pub more : {B D : Type 0} {part : B → D} {read : List ℕ → Option B} {at : ℕ} {w : D} {next : ℕ} {k : B → Form A}
      → Got s part read at w next
      → (length s + 1 < next → length s + 1 < last)
      → ((b : B) → w ≡ part b → next ≤ length s + 1 → Told s image (k b) next v last)
      → Told s image (field read k) at v last
  unfolding filled
  more {part = part} {read} {at} {w} {next} {k} g bad good = record { tells = go (head read (from s at)) g.tells }
    where
      go : (o : Option _) → Tells s part o w next → TellsLine s image (onward o (λ b rest. filled (k b) rest)) v last
      go none t = let z = bad t in λ e. omega arith
      go (some p) t = rw t.2 at (good p.0 t.0 t.1).tells

  -- the end of the fields
  pub done : {a : A} → v ≡ image a → last ≤ length s + 1 → Told s image (ends a) last v last
  unfolding filled
  done {a} e h = record { tells = go (dec_lt (length s) last) }
    where
      go : Dec (length s < last) → TellsLine s image (filled (ends a) (from s last)) v last
      go (yes l) = rw (from_past s last l) (e, omega arith)
      go (no l) = let x = field_at s last (omega arith) in rw x.is (λ q. omega arith)

-- ---- a form whose record another holds
abbrev pub mapped : {A B : Type 0} → (A → B) → Option A → Option B
mapped f none = none
mapped f (some a) = some (f a)

pub filled-into : {A B : Type 0} (f : A → B) (form : Form A) (fs : List (List ℕ)) → filled (into f form) fs ≡ mapped f (filled form fs)
unfolding filled into
filled-into f (ends a) [] = refl
filled-into f (ends a) (g ∷ fs) = refl
filled-into f (field read k) fs = go (head read fs) (λ b rest. filled-into f (k b) rest)
  where
    go : (o : Option _) → ((b : _) (rest : List (List ℕ)) → filled (into f (k b)) rest ≡ mapped f (filled (k b) rest)) → onward o (λ b rest. filled (into f (k b)) rest) ≡ mapped f (onward o (λ b rest. filled (k b) rest))
    go none on = refl
    go (some p) on = on p.0 p.1

pub told-into : {A B C D : Type 0} {s : List ℕ} {part : A → C} {image : B → D} {form : Form A} {at : ℕ} {w : C} {v : D} {last : ℕ} (f : A → B)
    → Told s part form at w last → ((a : A) → w ≡ part a → v ≡ image (f a)) → Told s image (into f form) at v last
told-into {s = s} {part} {image} {form} {at} {w} {v} {last} f t on = record { tells = rw (filled-into f form (from s at)) (go (filled form (from s at)) t.tells) }
  where
    go : (o : Option _) → TellsLine s part o w last → TellsLine s image (mapped f o) v last
    go none q = q
    go (some a) q = (on a q.0, q.1)
