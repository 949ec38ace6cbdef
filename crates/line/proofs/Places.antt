-- Where the fields of a line begin: each is as long as its text and the byte after it, so that the datum begins after the label. Assumes nothing.
use Rattle.std.proofs.Common.{◌≡◌, ℕ, suc, ◌+◌, ◌<◌, ◌≤◌, eqb, List, [], ◌∷◌, length, drop, ℤ, sym, refl, ap, ◌∙◌, arith, length-append, length-drop, to_z-of_z, w64, to_z, of_z, eq-eqb, ne_eqb}
use mathlib.Core.Option.{Option, none, some}
use native.Mathlib.Decide.{dec_lt, ℕ_discrete}
use Rattle.refusal.specs.Order.{pick}
use lib.Signed.{mag}
use Rattle.chain.specs.declared.Id.{Id}
use Rattle.chain.specs.declared.Label.{Label}
use Rattle.line.specs.Forms.{point_form, point_of}
use Rattle.line.specs.Fields.{fields, front, Form, field, taken, head, onward, filled, letter}
use Rattle.line.specs.Name.{name_of}
use Rattle.line.specs.Number.{number_of}
use Rattle.line.specs.Reading.{from, Tells, Got, TellsLine, Told, itself, unit, capped_z, capped_placed}
use Rattle.line.specs.Text.{integer, name_text, label_text}
use Rattle.line.proofs.AsWritten.{letter-text, number-text}
use Rattle.line.proofs.Walk as W
use Rattle.line.proofs.WrittenNames.{name-text}

-- how many bytes fields take, each with the byte after it
size : List (List ℕ) → ℕ
size [] = 0
size (f ∷ fs) = length f + 1 + size fs

size-fields : (s : List ℕ) → size (fields s) ≡ length s + 1
unfolding fields size
size-fields [] = refl
size-fields (b ∷ s) = go (ℕ_discrete b 9) (W.field_at s 0 (omega arith)) (size-fields s)
  where
    go : Dec (b ≡ 9) → W.Field s 0 → size (fields s) ≡ length s + 1 → size (pick (eqb b 9) ([] ∷ fields s) (front b (fields s))) ≡ suc (length s) + 1
    go (yes q) x on = rw (eq-eqb b 9 q) (omega (arith, on))
    go (no q) x on =
        let e = sym (W.from_start s) ∙ x.is in
        rw (ne_eqb b 9 q, e) (omega (arith, rw e at on))

size-from : (s : List ℕ) (at : ℕ) → at ≤ length s + 1 → size (from s at) + at ≡ length s + 1
unfolding size
size-from s at h = go (dec_lt (length s) at)
  where
    go : Dec (length s < at) → size (from s at) + at ≡ length s + 1
    go (yes l) = rw (W.from_past s at l) (omega arith)
    go (no l) = rw (W.from-here s at (omega arith)) (omega (arith, size-fields (drop at s), length-drop at s))

-- a field begins within the line
inside : (s : List ℕ) (at : ℕ) {f : List ℕ} {fs : List (List ℕ)} → from s at ≡ f ∷ fs → at ≤ length s
inside s at {f} {fs} e = go (dec_lt (length s) at)
  where
    go : Dec (length s < at) → at ≤ length s
    go (yes l) = let n : [] ≡ f ∷ fs = sym (W.from_past s at l) ∙ e in let w : ◌≡◌ {A = ℕ} 0 1 = cc in absurd (omega arith)
    go (no l) = omega arith

-- so the next one begins behind it
pub next_place : (s : List ℕ) (at next : ℕ) {f : List ℕ} {fs : List (List ℕ)} → from s at ≡ f ∷ fs → from s next ≡ fs → next ≤ length s + 1 → next ≡ at + (length f + 1)
unfolding size
next_place s at next {f} {fs} e n h =
    let a = size-from s at (omega (arith, inside s at e)) in
    let b = size-from s next h in
    omega (arith, rw e at a, rw n at b)

-- a field, and the fields after it, as `more` has them, with the field's text and where the next one begins
module _ {A C : Type 0} {s : List ℕ} {image : A → C} {v : C} {last : ℕ} where
  more : {B D : Type 0} {part : B → D} {read : List ℕ → Option B} {at : ℕ} {w : D} {next : ℕ} {k : B → Form A}
      → Got s part read at w next
      → (length s + 1 < next → length s + 1 < last)
      → ((b : B) (f : List ℕ) → read f ≡ some b → next ≡ at + (length f + 1) → w ≡ part b → Told s image (k b) next v last)
      → Told s image (field read k) at v last
  unfolding filled
  more {part = part} {read} {at} {w} {next} {k} g bad good = record { tells = go (from s at) refl g.tells }
    where
      go : (fs : List (List ℕ)) → from s at ≡ fs → Tells s part (head read fs) w next → TellsLine s image (onward (head read fs) (λ b rest. filled (k b) rest)) v last
      go [] e t = let z = bad t in λ q. omega arith
      go (f ∷ fs) e t = by (read f) refl t
        where
          by : (o : Option _) → read f ≡ o → Tells s part (taken o fs) w next → TellsLine s image (onward (taken o fs) (λ b rest. filled (k b) rest)) v last
          by none p t = let z = bad t in λ q. omega arith
          by (some b) p t = rw t.2 at (good b f p (next_place s at next e t.2 t.1) t.0).tells

-- ---- the label
label-length : (l : Label) → length (label_text l) ≡ 2 + (length (name_text l.id) + 1) + (length (integer l.issue) + 1) + (length (integer l.order) + 1)
unfolding label_text
label-length l = simp length-append (omega arith)

-- P, id, issue and order one after the other, and the place behind them
label-place : (b : ℕ) (f g h i : List ℕ) (l : Label) {p q r t : ℕ} → letter 80 f ≡ some b → name_of g ≡ some l.id → number_of h ≡ some l.issue → number_of i ≡ some l.order
    → p ≡ 0 + (length f + 1) → q ≡ p + (length g + 1) → r ≡ q + (length h + 1) → t ≡ r + (length i + 1) → t ≡ length (label_text l)
label-place b f g h i l a e m n dp dq dr dt =
    let x = ap length (letter-text 80 b f a) in
    let y = ap length (name-text g l.id e) in
    let z = ap length (number-text h l.issue m) in
    let w = ap length (number-text i l.order n) in
    omega (arith, x, y, z, w, dp, dq, dr, dt, label-length l)

-- ---- a number, as the machine reads it
pub told : {z : ℤ} → mag z < 9223372036854775808 → to_z w64 (of_z w64 z) ≡ z
told h = to_z-of_z {w = w64} (record { sfits = h })

-- ---- the fields of a point line, one after the other: the point that they tell, and where its datum begins
pub point-told : {s : List ℕ} {id : Id} {issue order datum epoch x y z : ℤ} {n1 n2 n3 place n5 n6 n7 n8 last : ℕ}
    → Got s unit (letter 80) 0 tt n1
    → Got s itself name_of n1 id n2
    → Got s capped_z number_of n2 issue n3
    → Got s capped_z number_of n3 order place
    → Got s capped_z number_of place datum n5
    → Got s capped_z number_of n5 epoch n6
    → Got s capped_z number_of n6 x n7
    → Got s capped_z number_of n7 y n8
    → Got s capped_z number_of n8 z last
    → Told s capped_placed point_form 0 (point_of id issue order datum epoch x y z, place) last
unfolding point_form
point-told g0 g1 g2 g3 g4 g5 g6 g7 g8 =
    let l7 = W.lost g8 in
    let l6 = W.lost-on g7 l7 in
    let l5 = W.lost-on g6 l6 in
    let l4 = W.lost-on g5 l5 in
    let l3 = W.lost-on g4 l4 in
    let l2 = W.lost-on g3 l3 in
    let l1 = W.lost-on g2 l2 in
    let l0 = W.lost-on g1 l1 in
    more g0 l0 λ z0 f0 r0 d0 _.
    more g1 l1 λ z1 f1 r1 d1 q1.
    more g2 l2 λ z2 f2 r2 d2 q2.
    more g3 l3 λ z3 f3 r3 d3 q3.
    W.more g4 l4 λ z4 q4 _.
    W.more g5 l5 λ z5 q5 _.
    W.more g6 l6 λ z6 q6 _.
    W.more g7 l7 λ z7 q7 _.
    W.more g8 (λ h. h) λ z8 q8 b.
    let p = label-place z0 f0 f1 f2 f3 (record { id = z1; issue = z2; order = z3 }) r0 r1 r2 r3 d0 d1 d2 d3 in
    W.done (rw (q1, q2, q3, q4, q5, q6, q7, q8, p)) b
