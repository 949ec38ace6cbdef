-- A written name is read as the id.
use Rattle.std.proofs.Common.{◌≡◌, ℕ, zero, suc, ◌+◌, ◌*◌, ◌/◌, ◌%◌, ◌^◌, ◌<◌, ◌≤◌, Bool, true, false, leb, List, [], ◌∷◌, length, take, drop, sym, refl, ap, ◌∙◌, mul-le-mul_right, mul_assoc, add-mul, pow-suc, arith, length-drop, take-append-drop, length-take, ne_eqb, le-leb, leb-true}
use mathlib.Core.Option.{none, some}
use native.Mathlib.Decide.{dec_lt, ℕ_discrete}
use borrow.Author.Tests.{lt-leb}
use Rattle.refusal.specs.Order.{pick}
use Rattle.chain.specs.declared.Id.{Id}
use Rattle.line.specs.Name.{is_name_byte, all_name_bytes, word, packed, name_of}
use Rattle.line.specs.Text.{highest, letters, name_text}
use Rattle.line.proofs.Capped.{never}
use Rattle.line.proofs.Names as N
use Rattle.line.proofs.Texts as T

name-byte : (b : ℕ) → is_name_byte b ≡ true → (0 < b) × (b ≤ 255)
name-byte b h = (low (ℕ_discrete b 0), high (dec_lt 90 b))
  where
    low : Dec (b ≡ 0) → 0 < b
    low (yes e) = absurd (never (ap is_name_byte (sym e) ∙ h))
    low (no e) = omega arith

    high : Dec (90 < b) → b ≤ 255
    high (yes l) =
        let z : b ≡ 45 → ⊥ = λ q. omega arith in
        let f : is_name_byte b ≡ false = rw (ne_eqb b 45 z, le-leb 48 b (omega arith), lt-leb b 57 (omega arith), le-leb 65 b (omega arith), lt-leb b 90 l) in
        absurd (never (sym f ∙ h))
    high (no l) = omega arith

pub all_tail : (b : ℕ) (s : List ℕ) → all_name_bytes (b ∷ s) ≡ true → (is_name_byte b ≡ true) × (all_name_bytes s ≡ true)
unfolding all_name_bytes
all_tail b s h = go (is_name_byte b) refl h
  where
    go : (t : Bool) → is_name_byte b ≡ t → pick t (all_name_bytes s) false ≡ true → (is_name_byte b ≡ true) × (all_name_bytes s ≡ true)
    go true e q = (e, q)
    go false e q = absurd (never q)

word_small : (k : ℕ) (s : List ℕ) → all_name_bytes s ≡ true → word k s < 256 ^ k
unfolding word
word_small zero s h = omega arith
word_small (suc k) [] h = N.pow-above (suc k)
word_small (suc k) (b ∷ s) h =
    let t = all_tail b s h in
    let l = word_small k s t.1 in
    let m : b * 256 ^ k ≤ 255 * 256 ^ k = mul-le-mul_right (256 ^ k) (name-byte b t.0).1 in
    let r = pow-suc 256 k in
    omega arith

-- the highest byte of a word, and the rest
split-word : (b : ℕ) (s : List ℕ) → all_name_bytes (b ∷ s) ≡ true → (word 8 (b ∷ s) / highest ≡ b) × (word 8 (b ∷ s) % highest ≡ word 7 s)
unfolding word
split-word b s h = let l = word_small 7 s (all_tail b s h).1 in (omega arith, omega arith)

-- one byte more of room
word_room : (k : ℕ) (s : List ℕ) → length s ≤ k → word k s * 256 ≡ word (suc k) s
unfolding word
word_room k [] h = let e = N.word_none k in omega arith
word_room zero (b ∷ s) h = absurd (omega arith)
word_room (suc k) (b ∷ s) h =
    let i = word_room k s (omega arith) in
    let e = pow-suc 256 k in
    let m : b * 256 ^ suc k ≡ b * 256 ^ k * 256 = ap (λ (x : ℕ). b * x) e ∙ sym (mul_assoc b (256 ^ k) 256) in
    let d = add-mul (b * 256 ^ k) (word k s) 256 in
    omega arith

letters-back : (k : ℕ) (s : List ℕ) → length s ≤ k → length s ≤ 8 → all_name_bytes s ≡ true → letters k (word 8 s) ≡ s
unfolding letters
letters-back k [] h l g = ap (letters k) (N.word_none 8) ∙ T.letters-end k 0 refl
letters-back zero (b ∷ s) h l g = absurd (omega arith)
letters-back (suc k) (b ∷ s) h l g =
    let t = all_tail b s g in
    let r = split-word b s g in
    let z : b ≡ 0 → ⊥ = λ q. (let y = (name-byte b t.0).0 in omega arith) in
    let on = letters-back k s (omega arith) (omega arith) t.1 in
    rw (r.0, r.1, ne_eqb b 0 z) (ap (λ (l : List ℕ). b ∷ l) (ap (letters k) (word_room 7 s (omega arith)) ∙ on))

all_split : (k : ℕ) (s : List ℕ) → all_name_bytes s ≡ true → (all_name_bytes (take k s) ≡ true) × (all_name_bytes (drop k s) ≡ true)
unfolding all_name_bytes
all_split zero s h = (refl, h)
all_split (suc k) [] h = (refl, refl)
all_split (suc k) (b ∷ s) h =
    let t = all_tail b s h in
    let r = all_split k s t.1 in
    (rw t.0 r.0, r.1)

word-take : (k : ℕ) (s : List ℕ) → word k s ≡ word k (take k s)
unfolding word
word-take zero s = refl
word-take (suc k) [] = refl
word-take (suc k) (b ∷ s) = ap (λ (n : ℕ). b * 256 ^ k + n) (word-take k s)

packed-back : (s : List ℕ) → length s ≤ 16 → all_name_bytes s ≡ true → name_text (packed s) ≡ s
unfolding name_text
packed-back s h g =
    let t = all_split 8 s g in
    let a : letters 8 (word 8 s) ≡ take 8 s = ap (letters 8) (word-take 8 s) ∙ letters-back 8 (take 8 s) (omega (arith, length-take 8 s)) (omega (arith, length-take 8 s)) t.0 in
    let b : letters 8 (word 8 (drop 8 s)) ≡ drop 8 s = letters-back 8 (drop 8 s) (omega (arith, length-drop 8 s)) (omega (arith, length-drop 8 s)) t.1 in
    rw (a, b) (take-append-drop 8 s)

-- an id that a line can hold: it is the id of some name
pub record Named (id : Id) : Type 0 where
  pub name : List ℕ
  pub named : name_of name ≡ some id

pub name_back : (id : Id) → Named id → name_of (name_text id) ≡ some id
unfolding name_of
name_back id n = go (leb 1 (length f)) (leb (length f) 16) (all_name_bytes f) refl refl n.named
  where
    f : List ℕ
    f = n.name

    go : (t u v : Bool) → leb (length f) 16 ≡ u → all_name_bytes f ≡ v → pick t (pick u (pick v (some (packed f)) none) none) none ≡ some id → name_of (name_text id) ≡ some id
    go true true true b c e =
        let i : packed f ≡ id = cc in
        rw (← i, packed-back f (leb-true (length f) 16 b) c) (n.named ∙ ap some (sym i))
    go true true false b c e = cc
    go true false v b c e = cc
    go false u v b c e = cc

-- and a field that is read as a name is that name as it is written
pub name-text : (f : List ℕ) (id : Id) → name_of f ≡ some id → name_text id ≡ f
unfolding name_of
name-text f id = go (leb 1 (length f)) (leb (length f) 16) (all_name_bytes f) refl refl
  where
    go : (t u v : Bool) → leb (length f) 16 ≡ u → all_name_bytes f ≡ v → pick t (pick u (pick v (some (packed f)) none) none) none ≡ some id → name_text id ≡ f
    go true true true b c e =
        let i : packed f ≡ id = cc in
        rw (← i) (packed-back f (leb-true (length f) 16 b) c)
    go true true false b c e = cc
    go true false v b c e = cc
    go false u v b c e = cc
