-- A name's bytes, one after the other, and the two words that they make.
use Rattle.std.proofs.Common.{◌≡◌, ℕ, zero, suc, ◌+◌, ◌-◌, ◌*◌, ◌/◌, ◌^◌, ◌<◌, ◌≤◌, Bool, true, false, leb, List, [], ◌∷◌, ◌++◌, length, get_or, drop, sym, refl, ap, ◌∙◌, append-nil, mul-le-mul_right, suc-add, pow-suc, zero-add, arith, length-append, drop_of_length-le, drop_at, le-leb}
use mathlib.Core.Option.{Option, none, some}
use lib.ListN.{get_or-eq_default}
use native.Mathlib.Decide.{dec_lt, ℕ_discrete}
use borrow.Author.Tests.{lt-leb}
use Rattle.refusal.specs.Order.{pick}
use Rattle.chain.specs.declared.Id.{Id}
use Rattle.line.specs.Fields.{front, head}
use Rattle.line.specs.Name.{is_name_byte, all_name_bytes, word, packed, name_of}
use Rattle.line.specs.Reading.{from, fronts, Got, itself, empty, scale_of, Run, Packed}
use Rattle.line.proofs.Walk as W

-- ---- words
pub word_none : (k : ℕ) → word k [] ≡ 0
unfolding word
word_none zero = refl
word_none (suc k) = refl

word-snoc : (p : List ℕ) (k b : ℕ) → word (length p + suc k) (p ++ (b ∷ [])) ≡ word (length p + suc k) p + b * 256 ^ k
unfolding word
word-snoc [] k b = rw (zero-add (suc k), word_none k) (omega arith)
word-snoc (x ∷ p) k b = rw (suc-add (length p) (suc k)) (let e = word-snoc p k b in omega arith)

pub word-append : (p q : List ℕ) (k : ℕ) → length p ≡ k → word k (p ++ q) ≡ word k p
unfolding word
word-append [] q zero h = refl
word-append [] q (suc k) h = absurd (omega arith)
word-append (x ∷ p) q zero h = absurd (omega arith)
word-append (x ∷ p) q (suc k) h = let e = word-append p q k (omega arith) in omega arith

pub pow-above : (k : ℕ) → 0 < 256 ^ k
pow-above zero = omega arith
pow-above (suc k) = let e = pow-suc 256 k in let h = pow-above k in omega arith

scale-step : (k : ℕ) → scale_of (suc k) / 256 ≡ scale_of k
scale-step zero = refl
scale-step (suc k) = let e = pow-suc 256 k in omega arith

-- ---- bytes
pub fronts-snoc : (p : List ℕ) (b : ℕ) (fs : List (List ℕ)) → fronts (p ++ (b ∷ [])) fs ≡ fronts p (front b fs)
unfolding fronts
fronts-snoc [] b fs = refl
fronts-snoc (x ∷ p) b fs = ap (front x) (fronts-snoc p b fs)

pub fronts-append : (p q : List ℕ) (fs : List (List ℕ)) → fronts (p ++ q) fs ≡ fronts p (fronts q fs)
unfolding fronts
fronts-append [] q fs = refl
fronts-append (x ∷ p) q fs = ap (front x) (fronts-append p q fs)

fronts-field : (p f : List ℕ) (fs : List (List ℕ)) → fronts p (f ∷ fs) ≡ (p ++ f) ∷ fs
unfolding fronts
fronts-field [] f fs = refl
fronts-field (x ∷ p) f fs = ap (front x) (fronts-field p f fs)

all_append : (p q : List ℕ) → all_name_bytes p ≡ true → all_name_bytes q ≡ true → all_name_bytes (p ++ q) ≡ true
unfolding all_name_bytes
all_append [] q h k = k
all_append (x ∷ p) q h k = go (is_name_byte x) (λ e. all_append p q e k) h
  where
    go : (t : Bool) → (all_name_bytes p ≡ true → all_name_bytes (p ++ q) ≡ true) → pick t (all_name_bytes p) false ≡ true → pick t (all_name_bytes (p ++ q)) false ≡ true
    go true on e = on e
    go false on e = e

all-off : (p : List ℕ) (b : ℕ) (f : List ℕ) → is_name_byte b ≡ false → all_name_bytes (p ++ (b ∷ f)) ≡ false
unfolding all_name_bytes
all-off [] b f h = rw h
all-off (x ∷ p) b f h = go (is_name_byte x) (all-off p b f h)
  where
    go : (t : Bool) → all_name_bytes (p ++ (b ∷ f)) ≡ false → pick t (all_name_bytes (p ++ (b ∷ f))) false ≡ false
    go true e = e
    go false e = refl

pub all_one : (b : ℕ) → is_name_byte b ≡ true → all_name_bytes (b ∷ []) ≡ true
unfolding all_name_bytes
all_one b h = rw h

-- a tab is no byte of a name, and neither is what stands past the end
not-tab : (b : ℕ) → is_name_byte b ≡ true → b ≡ 9 → ⊥
not-tab b h e = let z : ◌≡◌ {A = Bool} false true = ap is_name_byte (sym e) ∙ h in let w : ◌≡◌ {A = ℕ} 0 1 = cc in omega arith

pub past_off : (s : List ℕ) (at : ℕ) → length s ≤ at → is_name_byte (get_or s at 0) ≡ false
past_off s at h = ap is_name_byte (get_or-eq_default s 0 h)

-- ---- a run of them
pub run_none : (s : List ℕ) (at : ℕ) → Run s at 0 8 at
unfolding fronts all_name_bytes
run_none s at =
    record { bytes = []; there = refl; place = omega arith; inside = λ h. absurd (omega arith); count = refl; good = refl; begun = λ h. absurd (omega arith); value = sym (word_none 8); room = omega arith }

module _ {s : List ℕ} {at v left next : ℕ} (r : Run s at v left next) (h : 0 < left) where
  abbrev b : ℕ
  b = get_or s next 0

  left-suc : left ≡ suc (left - 1)
  left-suc = omega arith

  scale-is : scale_of left ≡ 256 ^ (left - 1)
  scale-is = ap scale_of left-suc

  pow-is : 256 ^ left ≡ 256 ^ (left - 1) * 256
  pow-is = ap (λ (k : ℕ). 256 ^ k) left-suc ∙ pow-suc 256 (left - 1)

  -- one more fits
  pub fits-product : (x scale : ℕ) → x < 256 → scale ≡ scale_of left → v + x * scale + 256 ^ (left - 1) ≤ 256 ^ 8
  fits-product x scale l e =
      let m : x * scale ≤ 255 * scale = mul-le-mul_right scale (omega arith) in
      let q : scale ≡ 256 ^ (left - 1) = e ∙ scale-is in
      omega (arith, r.room, pow-is)

  pub sum_fits : (x scale : ℕ) → x < 256 → scale ≡ scale_of left → v + x * scale < 2 ^ 64
  sum_fits x scale l e =
      let p : 0 < 256 ^ (left - 1) = pow-above (left - 1) in
      omega (arith, fits-product x scale l e)

  pub product-fits : (x scale : ℕ) → x < 256 → scale ≡ scale_of left → x * scale < 2 ^ 64
  product-fits x scale l e = omega (arith, sum_fits x scale l e)

  pub scale-next : (scale : ℕ) → scale ≡ scale_of left → scale / 256 ≡ scale_of (left - 1)
  scale-next scale e = rw (e ∙ ap scale_of left-suc) (scale-step (left - 1))

  pub run_more : (x scale : ℕ) → next < length s → is_name_byte (get_or s next 0) ≡ true → x ≡ get_or s next 0 → x < 256 → scale ≡ scale_of left → Run s at (v + x * scale) (left - 1) (next + 1)
  run_more x scale n g e l q =
      record {
        bytes = r.bytes ++ (b ∷ []);
        there = r.there ∙ ap (fronts r.bytes) (W.from_byte s next n (not-tab b g)) ∙ sym (fronts-snoc r.bytes b (from s (next + 1)));
        place = omega (arith, r.place, length-append r.bytes (b ∷ []));
        inside = λ k. omega arith;
        count = omega (arith, r.count, length-append r.bytes (b ∷ []));
        good = all_append r.bytes (b ∷ []) r.good (all_one b g);
        begun = λ k. starts (ℕ_discrete at next);
        value =
            let w : 8 ≡ length r.bytes + suc (left - 1) = omega (arith, r.count) in
            let t : word 8 (r.bytes ++ (b ∷ [])) ≡ word 8 r.bytes + b * 256 ^ (left - 1) = rw w (word-snoc r.bytes (left - 1) b) in
            let u : x * scale ≡ b * 256 ^ (left - 1) = ap (λ (y : ℕ). y * scale) e ∙ ap (λ (y : ℕ). b * y) (q ∙ scale-is) in
            omega (arith, r.value);
        room = fits-product x scale l q;
      }
    where
      starts : Dec (at ≡ next) → is_name_byte (get_or s at 0) ≡ true
      starts (yes y) = ap (λ (i : ℕ). is_name_byte (get_or s i 0)) y ∙ g
      starts (no y) = r.begun (omega (arith, r.place))

-- ---- a whole name
name-none : name_of [] ≡ none
unfolding name_of
name-none = refl

name-long : (f : List ℕ) → 16 < length f → name_of f ≡ none
unfolding name_of
name-long f h = rw (le-leb 1 (length f) (omega arith), lt-leb (length f) 16 h)

name-bad : (f : List ℕ) → all_name_bytes f ≡ false → name_of f ≡ none
unfolding name_of
name-bad f h = rw h (go (leb 1 (length f)) (leb (length f) 16))
  where
    go : (t u : Bool) → pick t (pick u (pick {A = Option Id} false (some (packed f)) none) none) none ≡ none
    go true true = refl
    go true false = refl
    go false u = refl

name-good : (f : List ℕ) → 0 < length f → length f ≤ 16 → all_name_bytes f ≡ true → name_of f ≡ some (packed f)
unfolding name_of
name-good f p h g = rw (le-leb 1 (length f) p, le-leb (length f) 16 h, g)

-- no name there
pub name-off : (s : List ℕ) (at : ℕ) → is_name_byte (get_or s at 0) ≡ false → head name_of (from s at) ≡ none
name-off s at off = go (dec_lt at (length s)) (ℕ_discrete (get_or s at 0) 9)
  where
    go : Dec (at < length s) → Dec (get_or s at 0 ≡ 9) → head name_of (from s at) ≡ none
    go (yes l) (yes e) = W.head-nothing s at name_of (λ k. e) name-none
    go (yes l) (no e) = W.head-off s at name_of l e (λ f. name-bad (get_or s at 0 ∷ f) (all-off [] (get_or s at 0) f off))
    go (no l) e = W.head-nothing s at name_of (λ k. absurd (l k)) name-none

pub packed_none : {s : List ℕ} {at v next : ℕ} → Packed s at v next → next ≡ at → is_name_byte (get_or s at 0) ≡ false
packed_none {s} {at} {v} {next} p e =
    ap (λ (i : ℕ). is_name_byte (get_or s i 0)) (sym e) ∙ p.last (let r = p.run in omega (arith, r.place, r.count))

-- the first eight bytes and those after them
module _ {s : List ℕ} {at v i w j : ℕ} (a : Packed s at v i) (z : Packed s i w j) where
  abbrev p : List ℕ
  p = a.run.bytes

  abbrev q : List ℕ
  q = z.run.bytes

  data Cases : Type 0 where
    short : q ≡ [] → length p < 8 → Cases
    full : length p ≡ 8 → Cases

  none_of : (l : List ℕ) → length l ≡ 0 → l ≡ []
  none_of [] e = refl
  none_of (x ∷ l) e = absurd (omega arith)

  cases : Cases
  cases = go (dec_lt 0 a.left) (dec_lt 0 (length q))
    where
      go : Dec (0 < a.left) → Dec (0 < length q) → Cases
      go (yes h) (yes k) =
          let t = z.run.begun (omega (arith, z.run.place)) in
          let u : ◌≡◌ {A = Bool} false true = sym (a.last h) ∙ t in
          let x : ◌≡◌ {A = ℕ} 0 1 = cc in
          absurd (omega arith)
      go (yes h) (no k) = short (none_of q (omega arith)) (omega (arith, a.run.count))
      go (no h) k = full (omega (arith, a.run.count))

  word-high : word 8 (p ++ q) ≡ v
  word-high = go cases
    where
      go : Cases → word 8 (p ++ q) ≡ v
      go (short e h) = ap (λ (l : List ℕ). word 8 (p ++ l)) e ∙ ap (word 8) (append-nil p) ∙ sym a.run.value
      go (full e) = word-append p q 8 e ∙ sym a.run.value

  word_low : word 8 (drop 8 (p ++ q)) ≡ w
  word_low = go cases
    where
      go : Cases → word 8 (drop 8 (p ++ q)) ≡ w
      go (short e h) =
          ap (λ (l : List ℕ). word 8 (drop 8 (p ++ l))) e
          ∙ ap (λ (l : List ℕ). word 8 (drop 8 l)) (append-nil p)
          ∙ ap (word 8) (drop_of_length-le p {i = 8} (omega arith) ∙ sym e)
          ∙ sym z.run.value
      go (full e) = ap (word 8) (drop_at p q 8 e) ∙ sym z.run.value

  length-is : j ≡ at + length (p ++ q)
  length-is = omega (arith, a.run.place, z.run.place, length-append p q)

  short-enough : length (p ++ q) ≤ 16
  short-enough = omega (arith, a.run.count, z.run.count, length-append p q)

  no_more : (f : List ℕ) → name_of ((p ++ q) ++ (get_or s j 0 ∷ f)) ≡ none
  no_more f = go (dec_lt 0 z.left) cases
    where
      go : Dec (0 < z.left) → Cases → name_of ((p ++ q) ++ (get_or s j 0 ∷ f)) ≡ none
      go (yes h) k = name-bad ((p ++ q) ++ (get_or s j 0 ∷ f)) (all-off (p ++ q) (get_or s j 0) f (z.last h))
      go (no h) (short e k) = let n : length q ≡ 0 = ap length e in absurd (omega (arith, z.run.count))
      go (no h) (full e) =
          name-long ((p ++ q) ++ (get_or s j 0 ∷ f)) (omega (arith, z.run.count, length-append p q, length-append (p ++ q) (get_or s j 0 ∷ f)))

  inside : at < j → j ≤ length s
  inside h = go (dec_lt i j)
    where
      go : Dec (i < j) → j ≤ length s
      go (yes k) = z.run.inside k
      go (no k) = let x = a.run.inside (omega (arith, z.run.place)) in omega (arith, z.run.place)

  there : from s at ≡ fronts (p ++ q) (from s j)
  there = a.run.there ∙ ap (fronts p) z.run.there ∙ sym (fronts-append p q (from s j))

  pub name-got : {next : ℕ} → Got s itself empty j tt next → (j ≡ at → ⊥) → Got s itself name_of at (record { high = v; low = w }) next
  name-got {next} g n =
      let l : at < j = omega (arith, length-is) in
      let x = W.field_at s j (inside l) in
      let rest = W.head-close s j (λ f. name_of ((p ++ q) ++ f)) (packed (p ++ q)) g named (sym packed-is) (λ k t f. no_more f) in
      let e : head name_of (from s at) ≡ head (λ f. name_of ((p ++ q) ++ f)) (from s j) =
      rw (there, x.is) (ap (head name_of) (fronts-field (p ++ q) x.first x.rest)) in
      record { tells = rw e rest.tells }
    where
      packed-is : packed (p ++ q) ≡ record { high = v; low = w }
      packed-is = rw (word-high, word_low)

      named : name_of ((p ++ q) ++ []) ≡ some (packed (p ++ q))
      named =
          ap name_of (append-nil (p ++ q))
          ∙ name-good (p ++ q) (omega (arith, length-is)) short-enough (all_append p q a.run.good z.run.good)
