-- Something is found wrong with a line exactly where the line is not of its form. The form's fields and their classes are held side by side, once for all seven.
-- Assumes nothing.
use Rattle.std.proofs.Common.{◌≡◌, ℕ, suc, ◌+◌, ◌<◌, Bool, true, false, eqb, List, [], ◌∷◌, ◌++◌, length, sym, refl, ap, ◌∙◌, arith, eq-eqb, ne_eqb, eqb-true}
use mathlib.Core.Option.{Option, none, some}
use borrow.Author.Tests.{eqb-false}
use Rattle.refusal.specs.Numbers as refusal
use Rattle.refusal.specs.Order.{pick}
use Rattle.chain.specs.declared.Step.{Step}
use Rattle.line.specs.Answers.{Fault}
use Rattle.line.specs.Bytes.{letter_t, letter_v, letter_b, letter_f, letter_p, letter_c, letter_o, letter_g, letter_e, letter_s}
use Rattle.line.specs.Fields.{body, fields, Form, ends, field, either, into, taken, onward, filled, in_body, said, single, one_of, letter_of}
use Rattle.line.specs.Name.{name_of}
use Rattle.line.specs.Number.{number_of}
use Rattle.line.specs.Forms.{point_form, step_of, three_form, shift, velocity, bursa_wolf_form, frame_form, kind_form, step_form, origin_form, geodetic_form, edition_form, grid_form, node_form}
use Rattle.line.specs.Malformed.{Class, letters, identifier, number, Shape, numbers, point_shape, origin_shape, geodetic_shape, edition_shape, grid_shape, node_shape, byte_of, kind_shape, step_shape, unread, field_fault, offending, end_of, miscounted, or_next, fields_fault, body_fault, fault_of}
use Rattle.line.proofs.Malformed.{nothing}

-- ---- a field is good, and all of them are
abbrev good_field : Class → List ℕ → Bool
good_field c f = eqb (field_fault c f) 0

abbrev all_good : List Class → List (List ℕ) → Bool
all_good [] [] = true
all_good [] (f ∷ fs) = false
all_good (c ∷ cs) [] = false
all_good (c ∷ cs) (f ∷ fs) = pick (good_field c f) (all_good cs fs) false

never : true ≡ false → ⊥
never e = let z : ◌≡◌ {A = ℕ} 0 1 = cc in omega arith

good-count : (cs : List Class) (fs : List (List ℕ)) → all_good cs fs ≡ true → length fs ≡ length cs
good-count [] [] e = refl
good-count [] (f ∷ fs) e = absurd (never (sym e))
good-count (c ∷ cs) [] e = absurd (never (sym e))
good-count (c ∷ cs) (f ∷ fs) e = go (good_field c f) (good-count cs fs) e
  where
    go : (t : Bool) → (all_good cs fs ≡ true → length fs ≡ length cs) → pick t (all_good cs fs) false ≡ true → suc (length fs) ≡ suc (length cs)
    go true on e = ap suc (on e)
    go false on e = absurd (never (sym e))

good-clean : (n at : ℕ) → 0 < n → (cs : List Class) (fs : List (List ℕ)) → all_good cs fs ≡ true → offending n at cs fs ≡ none
unfolding offending
good-clean n at h [] fs e = refl
good-clean n at h (c ∷ cs) [] e = refl
good-clean n at h (c ∷ cs) (f ∷ fs) e = go (good_field c f) refl (good-clean n (at + length f + 1) h cs fs) e
  where
    go : (t : Bool) → eqb (field_fault c f) 0 ≡ t → (all_good cs fs ≡ true → offending n (at + length f + 1) cs fs ≡ none)
        → pick t (all_good cs fs) false ≡ true → pick (eqb (field_fault c f) n) (some at) (offending n (at + length f + 1) cs fs) ≡ none
    go true q on e = rw (ne_eqb (field_fault c f) n (λ z. omega (arith, eqb-true (field_fault c f) 0 q))) (on e)
    go false q on e = absurd (never (sym e))

-- a field's fault is one of three, or none
module _ (P : ℕ → Type 0) (good : P 0) where
  by-reading : {A : Type 0} (n : ℕ) (o : Option A) → P n → P (unread n o)
  by-reading n none h = h
  by-reading n (some a) h = good

  by-class : P refusal.letter → P refusal.id → P refusal.plain → (c : Class) (f : List ℕ) → P (field_fault c f)
  by-class l i p (letters ls) f = by-reading refusal.letter (letter_of ls f) l
  by-class l i p identifier f = by-reading refusal.id (name_of f) i
  by-class l i p number f = by-reading refusal.plain (number_of f) p

-- a search for m passes over a first field with fault n, and finds nothing after it
abbrev Missed : ℕ → List ℕ → List Class → List (List ℕ) → ℕ → ℕ → Type 0
Missed at f cs fs m n = pick (eqb n m) (some at) (offending m (at + length f + 1) cs fs) ≡ none

clean-good : (at : ℕ) (cs : List Class) (fs : List (List ℕ)) → length fs ≡ length cs → offending refusal.letter at cs fs ≡ none
    → offending refusal.id at cs fs ≡ none → offending refusal.plain at cs fs ≡ none → all_good cs fs ≡ true
unfolding offending
clean-good at [] [] e l i p = refl
clean-good at [] (f ∷ fs) e l i p = absurd (omega arith)
clean-good at (c ∷ cs) [] e l i p = absurd (omega arith)
clean-good at (c ∷ cs) (f ∷ fs) e l i p =
    by-class
    (λ (n : ℕ).
    Missed at f cs fs refusal.letter n → Missed at f cs fs refusal.id n → Missed at f cs fs refusal.plain n → pick (eqb n 0) (all_good cs fs) false ≡ true)
    (λ l i p. clean-good (at + length f + 1) cs fs (omega arith) l i p)
    (λ l i p. absurd (nothing (sym l))) (λ l i p. absurd (nothing (sym i))) (λ l i p. absurd (nothing (sym p))) c f l i p

-- ---- nothing is wrong exactly where every field is good, and there are as many as awaited
next-zero : (n : ℕ) (o : Option ℕ) (next : Fault) → 0 < n → (or_next n o next).number ≡ 0 → (o ≡ none) × (next.number ≡ 0)
next-zero n none next h e = (refl, e)
next-zero n (some p) next h e = absurd (omega arith)

same_count : (cs : List Class) (fs : List (List ℕ)) (end : ℕ) → miscounted cs fs end ≡ none → length fs ≡ length cs
same_count cs fs end e = go (eqb (length fs) (length cs)) refl e
  where
    go : (t : Bool) → eqb (length fs) (length cs) ≡ t → pick t none (some end) ≡ none → length fs ≡ length cs
    go true q e = eqb-true (length fs) (length cs) q
    go false q e = absurd (nothing (sym e))

fields-good : (cs : List Class) (end : ℕ) (fs : List (List ℕ)) → eqb (fields_fault cs end fs).number 0 ≡ all_good cs fs
unfolding fields_fault
fields-good cs end fs = go (all_good cs fs) refl
  where
    go : (t : Bool) → all_good cs fs ≡ t → eqb (fields_fault cs end fs).number 0 ≡ t
    go true e =
        let clean : (n : ℕ) → 0 < n → offending n 0 cs fs ≡ none = λ n h. good-clean n 0 h cs fs e in
        let count = eq-eqb (length fs) (length cs) (good-count cs fs e) in
        rw (clean refusal.letter (omega arith), count, clean refusal.id (omega arith), clean refusal.plain (omega arith))
    go false e =
        ne_eqb (fields_fault cs end fs).number 0 λ z.
        let l = next-zero refusal.letter (offending refusal.letter 0 cs fs) _ (omega arith) z in
        let c = next-zero refusal.count (miscounted cs fs end) _ (omega arith) l.1 in
        let i = next-zero refusal.id (offending refusal.id 0 cs fs) _ (omega arith) c.1 in
        let p = next-zero refusal.plain (offending refusal.plain 0 cs fs) _ (omega arith) i.1 in
        never (sym (clean-good 0 cs fs (same_count cs fs end c.0) l.0 i.0 p.0) ∙ e)

-- ---- a form and the classes of its fields
abbrev is_some : {A : Type 0} → Option A → Bool
is_some none = false
is_some (some a) = true

-- field by field
Like : {A : Type 0} → Form A → List Class → Type 0
Like (ends a) [] = Unit {0}
Like (ends a) (c ∷ cs) = ⊥
Like (field read k) [] = ⊥
Like (field read k) (c ∷ cs) = ((f : List ℕ) → is_some (read f) ≡ good_field c f) × ((b : _) → Like (k b) cs)

-- the same of a line's own fields, where what is read of one decides what follows
LikeOn : {A : Type 0} → Form A → List Class → List (List ℕ) → Type 0
LikeOn (ends a) [] fs = Unit {0}
LikeOn (ends a) (c ∷ cs) fs = ⊥
LikeOn (field read k) [] fs = ⊥
LikeOn (field read k) (c ∷ cs) [] = Unit {0}
LikeOn (field read k) (c ∷ cs) (f ∷ fs) = (is_some (read f) ≡ good_field c f) × ((b : _) → read f ≡ some b → LikeOn (k b) cs fs)

like-on : {A : Type 0} (form : Form A) (cs : List Class) (fs : List (List ℕ)) → Like form cs → LikeOn form cs fs
unfolding Like LikeOn
like-on (ends a) [] fs h = tt
like-on (ends a) (c ∷ cs) fs h = h
like-on (field read k) [] fs h = h
like-on (field read k) (c ∷ cs) [] h = tt
like-on (field read k) (c ∷ cs) (f ∷ fs) h = (h.0 f, λ b e. like-on (k b) cs fs (h.1 b))

like-into : {A B : Type 0} (g : A → B) (form : Form A) (cs : List Class) → Like form cs → Like (into g form) cs
unfolding Like into
like-into g (ends a) [] h = tt
like-into g (ends a) (c ∷ cs) h = h
like-into g (field read k) [] h = h
like-into g (field read k) (c ∷ cs) h = (h.0, λ b. like-into g (k b) cs (h.1 b))

filled-good : {A : Type 0} (form : Form A) (cs : List Class) (fs : List (List ℕ)) → LikeOn form cs fs → is_some (filled form fs) ≡ all_good cs fs
unfolding LikeOn filled
filled-good (ends a) [] [] h = refl
filled-good (ends a) [] (f ∷ fs) h = refl
filled-good (ends a) (c ∷ cs) fs h = absurd h
filled-good (field read k) [] fs h = absurd h
filled-good (field read k) (c ∷ cs) [] h = refl
filled-good (field read k) (c ∷ cs) (f ∷ fs) h = go (read f) h.0 (λ b e. filled-good (k b) cs fs (h.1 b e))
  where
    go : (o : Option _) → is_some o ≡ good_field c f → ((b : _) → o ≡ some b → is_some (filled (k b) fs) ≡ all_good cs fs)
        → is_some (onward (taken o fs) (λ b rest. filled (k b) rest)) ≡ pick (good_field c f) (all_good cs fs) false
    go none e on = rw (← e)
    go (some b) e on = rw (← e) (on b refl)

-- ---- the seven forms
read-good : {A : Type 0} (n : ℕ) (o : Option A) → 0 < n → is_some o ≡ eqb (unread n o) 0
read-good n none h = sym (ne_eqb n 0 (λ e. omega arith))
read-good n (some a) h = refl

a-letter : (ls : List ℕ) (f : List ℕ) → is_some (letter_of ls f) ≡ good_field (letters ls) f
a-letter ls f = read-good refusal.letter (letter_of ls f) (omega arith)

an-id : (f : List ℕ) → is_some (name_of f) ≡ good_field identifier f
an-id f = read-good refusal.id (name_of f) (omega arith)

a-number : (f : List ℕ) → is_some (number_of f) ≡ good_field number f
a-number f = read-good refusal.plain (number_of f) (omega arith)

point-like : (fs : List (List ℕ)) → Like point_form (point_shape fs)
unfolding Like point_form
point-like fs = (a-letter (letter_p ∷ []), λ _. (an-id, λ _. (a-number, λ _. (a-number, λ _. (a-number, λ _. (a-number, λ _. (a-number, λ _. (a-number, λ _. (a-number, λ _. tt)))))))))

origin-like : (fs : List (List ℕ)) → Like origin_form (origin_shape fs)
unfolding Like origin_form
origin-like fs = (a-letter (letter_o ∷ []), λ _. (a-number, λ _. (a-number, λ _. (a-number, λ _. (a-number, λ _. (a-number, λ _. tt))))))

geodetic-like : (fs : List (List ℕ)) → Like geodetic_form (geodetic_shape fs)
unfolding Like geodetic_form
geodetic-like fs = (a-letter (letter_g ∷ []), λ _. (an-id, λ _. (a-number, λ _. (a-number, λ _. tt))))

edition-like : (fs : List (List ℕ)) → Like edition_form (edition_shape fs)
unfolding Like edition_form
edition-like fs = (a-letter (letter_e ∷ []), λ _. (a-number, λ _. tt))

grid-like : (fs : List (List ℕ)) → Like grid_form (grid_shape fs)
unfolding Like grid_form
grid-like fs = (a-letter (letter_g ∷ []), λ _. (a-number, λ _. (a-number, λ _. (a-number, λ _. (a-number, λ _. (a-number, λ _. tt))))))

node-like : (fs : List (List ℕ)) → Like node_form (node_shape fs)
unfolding Like node_form
node-like fs = (a-number, λ _. (a-number, λ _. (a-number, λ _. tt)))

kind-like : (t v b : Bool)
    → Like (either t (three_form shift) (either v (three_form velocity) (either b bursa_wolf_form frame_form))) (pick t (numbers 3) (pick v (numbers 3) (pick b (letters (letter_p ∷ letter_c ∷ []) ∷ numbers 7) [])))
unfolding Like three_form bursa_wolf_form frame_form
kind-like true v b = (a-number, λ _. (a-number, λ _. (a-number, λ _. tt)))
kind-like false true b = (a-number, λ _. (a-number, λ _. (a-number, λ _. tt)))
kind-like false false true =
    (a-letter (letter_p ∷ letter_c ∷ []), λ _. (a-number, λ _. (a-number, λ _. (a-number, λ _. (a-number, λ _. (a-number, λ _. (a-number, λ _. (a-number, λ _. tt))))))))
kind-like false false false = tt

one-of : (ls : List ℕ) (o : Option ℕ) (b : ℕ) → one_of ls o ≡ some b → o ≡ some b
one-of ls none b e = absurd (nothing e)
one-of [] (some x) b e = absurd (nothing e)
one-of (l ∷ ls) (some x) b e = go (eqb x l) (one-of ls (some x) b) e
  where
    go : (t : Bool) → (one_of ls (some x) ≡ some b → some x ≡ some b) → pick t (some x) (one_of ls (some x)) ≡ some b → some x ≡ some b
    go true on e = e
    go false on e = on e

-- what a step has after its kind
abbrev after_kind : ℕ → Form Step
after_kind k =
    field number_of λ datum.
    field number_of λ epoch.
    field number_of λ datum'.
    field number_of λ epoch'.
    into (step_of (record { datum = datum; epoch = epoch }) (record { datum = datum'; epoch = epoch' })) (kind_form k)

after-like : (g : List ℕ) (k : ℕ) → letter_of (letter_t ∷ letter_v ∷ letter_b ∷ letter_f ∷ []) g ≡ some k
    → Like (after_kind k) (numbers 4 ++ kind_shape (byte_of (single g)))
unfolding Like
after-like g k e =
    rw (one-of (letter_t ∷ letter_v ∷ letter_b ∷ letter_f ∷ []) (single g) k e) (
      a-number,
      λ _. (
        a-number,
        λ _. (
          a-number,
          λ _. (
            a-number,
            λ _.
                like-into _ (kind_form k) (kind_shape k) (kind-like (eqb k letter_t) (eqb k letter_v) (eqb k letter_b)),
          ),
        ),
      ),
    )

step-like : (fs : List (List ℕ)) → LikeOn step_form (step_shape fs) fs
unfolding LikeOn step_form
step-like [] = tt
step-like (f ∷ []) = (a-letter (letter_s ∷ []) f, λ _ _. tt)
step-like (f ∷ g ∷ fs) = (a-letter (letter_s ∷ []) f, λ _ _. (a-letter (letter_t ∷ letter_v ∷ letter_b ∷ letter_f ∷ []) g, λ k e. like-on (after_kind k) (numbers 4 ++ kind_shape (byte_of (single g))) fs (after-like g k e)))

-- ---- the law: nothing is said exactly where a fault has a number
abbrev pub Exactly : {A : Type 0} → Option A → Fault → Type 0
Exactly o f = (o ≡ none → 0 < f.number) × (0 < f.number → o ≡ none)

exactly : {A : Type 0} (o : Option A) (f : Fault) → is_some o ≡ eqb f.number 0 → Exactly o f
exactly none f e = let h = eqb-false f.number 0 (sym e) in (λ _. positive f.number h, λ _. refl)
  where
    positive : (n : ℕ) → (n ≡ 0 → ⊥) → 0 < n
    positive n h = omega arith
exactly (some a) f e = let h = eqb-true f.number 0 (sym e) in (λ z. absurd (nothing (sym z)), λ l. absurd (omega arith))

module _ {A : Type 0} (form : Form A) (shape : Shape) (like : (fs : List (List ℕ)) → LikeOn form (shape fs) fs) (line : List ℕ) where
  good-said : is_some (said form line) ≡ eqb (fault_of shape line).number 0
  unfolding fault_of
  good-said = go (body line)
    where
      go : (o : Option (List ℕ)) → is_some (in_body form o) ≡ eqb (body_fault shape (end_of line) o).number 0
      go none = refl
      go (some s) = filled-good form (shape (fields s)) (fields s) (like (fields s)) ∙ sym (fields-good (shape (fields s)) (end_of line) (fields s))

  law : Exactly (said form line) (fault_of shape line)
  law = exactly (said form line) (fault_of shape line) good-said

  -- a wrong count of fields is enough
  uncounted : (s : List ℕ) → body line ≡ some s → (length (fields s) ≡ length (shape (fields s)) → ⊥) → said form line ≡ none
  uncounted s b n = ap (in_body form) b ∙ go (filled form (fields s)) (filled-good form (shape (fields s)) (fields s) (like (fields s)))
    where
      go : (o : Option A) → is_some o ≡ all_good (shape (fields s)) (fields s) → o ≡ none
      go none e = refl
      go (some a) e = absurd (n (good-count (shape (fields s)) (fields s) (sym e)))

pub point-exactly : (line : List ℕ) → Exactly (said point_form line) (fault_of point_shape line)
point-exactly = law point_form point_shape (λ fs. like-on point_form (point_shape fs) fs (point-like fs))

pub step-exactly : (line : List ℕ) → Exactly (said step_form line) (fault_of step_shape line)
step-exactly = law step_form step_shape step-like

pub step-uncounted : (line s : List ℕ) → body line ≡ some s → (length (fields s) ≡ length (step_shape (fields s)) → ⊥) → said step_form line ≡ none
step-uncounted = uncounted step_form step_shape step-like

pub origin-exactly : (line : List ℕ) → Exactly (said origin_form line) (fault_of origin_shape line)
origin-exactly = law origin_form origin_shape (λ fs. like-on origin_form (origin_shape fs) fs (origin-like fs))

pub geodetic-exactly : (line : List ℕ) → Exactly (said geodetic_form line) (fault_of geodetic_shape line)
geodetic-exactly = law geodetic_form geodetic_shape (λ fs. like-on geodetic_form (geodetic_shape fs) fs (geodetic-like fs))

pub edition-exactly : (line : List ℕ) → Exactly (said edition_form line) (fault_of edition_shape line)
edition-exactly = law edition_form edition_shape (λ fs. like-on edition_form (edition_shape fs) fs (edition-like fs))

pub grid-exactly : (line : List ℕ) → Exactly (said grid_form line) (fault_of grid_shape line)
grid-exactly = law grid_form grid_shape (λ fs. like-on grid_form (grid_shape fs) fs (grid-like fs))

pub node-exactly : (line : List ℕ) → Exactly (said node_form line) (fault_of node_shape line)
node-exactly = law node_form node_shape (λ fs. like-on node_form (node_shape fs) fs (node-like fs))
