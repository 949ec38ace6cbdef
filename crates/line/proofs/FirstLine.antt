-- The first line of some bytes, read before it is known where it ends: what is read up to a place is read there without the bytes behind the place too; and a
-- line that says a point has no line feed but its last byte, so where one stands after the point's fields, the line ends. Assumes nothing.
use Rattle.std.proofs.Common.{◌≡◌, ℕ, suc, ◌+◌, ◌-◌, ◌<◌, ◌≤◌, true, ◌&&◌, eqb, ltb, List, [], ◌∷◌, length, get_or, take, ℤ, sym, refl, ap, ◌∙◌, zero-add, arith, length-take-le, get_or-take, take-take, ltb-true, eqb-true}
use mathlib.Core.Option.{Option, none, some}
use native.Mathlib.Decide.{ℕ_discrete}
use Rattle.ranges.proofs.Ranges.{both}
use Rattle.chain.specs.declared.Point.{Point}
use Rattle.line.specs.FirstLine.{Ended, First}
use Rattle.line.specs.Fields.{body, fields, front, Form, ends, field, onward, taken, head, filled, in_body}
use Rattle.line.specs.Forms.{point_form}
use Rattle.line.specs.Lines.{first_length, Clear, Onward}
use Rattle.line.specs.Number.{number_of}
use Rattle.line.specs.Reading.{from, Tells, Got, TellsLine, Told, capped_z, capped_placed}
use Rattle.line.proofs.AsWritten.{letter-text}
use Rattle.line.proofs.Clean.{Clean, AllClean, a-feed, clean_line, clean_at, clean-number, clean-named}
use Rattle.line.proofs.Lines.{skip, at-feed, first-end}
use Rattle.line.proofs.Malformed.{nothing}
use Rattle.line.proofs.Places.{next_place}
use Rattle.line.proofs.Walk as W

-- ---- without the bytes behind a place
-- a field that ends before it
from-fewer : (w : List ℕ) (k : ℕ) → k ≤ length w → (f : List ℕ) (fs : List (List ℕ)) (at : ℕ) → from w at ≡ f ∷ fs → at + length f < k → from (take k w) at ≡ f ∷ from (take k w) (at + (length f + 1))
from-fewer w k h [] fs at e l = go (ℕ_discrete (get_or w at 0) 9)
  where
    go : Dec (get_or w at 0 ≡ 9) → from (take k w) at ≡ [] ∷ from (take k w) (at + 1)
    go (yes q) = W.from-tab (take k w) at (omega (arith, length-take-le k w h)) (get_or-take k w at 0 (omega arith) ∙ q)
    go (no q) =
        let x = W.field_at w (at + 1) (omega arith) in
        let y : (get_or w at 0 ∷ x.first) ∷ x.rest ≡ [] ∷ fs = sym (W.from_byte w at (omega arith) q ∙ ap (front (get_or w at 0)) x.is) ∙ e in
        cc
from-fewer w k h (b ∷ g) fs at e l = go (ℕ_discrete (get_or w at 0) 9) (λ r z. from-fewer w k h g r (at + 1) z (omega arith))
  where
    go : Dec (get_or w at 0 ≡ 9) → ((r : List (List ℕ)) → from w (at + 1) ≡ g ∷ r → from (take k w) (at + 1) ≡ g ∷ from (take k w) (at + 1 + (length g + 1))) → from (take k w) at ≡ (b ∷ g) ∷ from (take k w) (at + (suc (length g) + 1))
    go (yes q) on = let y : [] ∷ from w (at + 1) ≡ (b ∷ g) ∷ fs = sym (W.from-tab w at (omega arith) q) ∙ e in cc
    go (no q) on =
        let x = W.field_at w (at + 1) (omega arith) in
        let y : (get_or w at 0 ∷ x.first) ∷ x.rest ≡ (b ∷ g) ∷ fs = sym (W.from_byte w at (omega arith) q ∙ ap (front (get_or w at 0)) x.is) ∙ e in
        let i : get_or w at 0 ≡ b = cc in
        let j : x.first ≡ g = cc in
        let m : at + 1 + (length g + 1) ≡ at + (suc (length g) + 1) = omega arith in
        let c = get_or-take k w at 0 (omega arith) in
        let n = on x.rest (x.is ∙ ap (λ (r : List ℕ). r ∷ x.rest) j) in
        W.from_byte (take k w) at (omega (arith, length-take-le k w h)) (λ z. q (sym c ∙ z))
        ∙ rw (n, c ∙ i, m)

-- what a field's reader told, of a field that is there
module _ {B C : Type 0} {w : List ℕ} {image : B → C} {read : List ℕ → Option B} {at : ℕ} {v : C} {next : ℕ} (g : Got w image read at v next) where
  -- the next field begins behind it
  pub ahead : next ≤ length w + 1 → at < next
  ahead h = go (from w at) refl g.tells
    where
      go : (fs : List (List ℕ)) → from w at ≡ fs → Tells w image (head read fs) v next → at < next
      go [] e t = absurd (omega arith)
      go (f ∷ fs) e t = by (read f) t
        where
          by : (o : Option B) → Tells w image (taken o fs) v next → at < next
          by none t = absurd (omega arith)
          by (some b) t = omega (arith, next_place w at next e t.2 t.1)

  pub fewer : (k : ℕ) → next ≤ k → k ≤ length w → Got (take k w) image read at v next
  fewer k l h = record { tells = go (from w at) refl g.tells }
    where
      go : (fs : List (List ℕ)) → from w at ≡ fs → Tells w image (head read fs) v next → Tells (take k w) image (head read (from (take k w) at)) v next
      go [] e t = absurd (omega arith)
      go (f ∷ fs) e t = by (read f) refl t
        where
          by : (o : Option B) → read f ≡ o → Tells w image (taken o fs) v next → Tells (take k w) image (head read (from (take k w) at)) v next
          by none p t = absurd (omega arith)
          by (some b) p t =
              let n = next_place w at next e t.2 t.1 in
              rw (from-fewer w k h f fs at e (omega (arith, n)), p) (t.0, omega (arith, length-take-le k w h), ap (from (take k w)) n)

-- ---- no line feed in what says a point
-- a form whose fields have no x
Without : {A : Type 0} → ℕ → Form A → Type 0
Without x (ends a) = Unit {0}
Without x (field read k) = ((f : List ℕ) (b : _) → read f ≡ some b → Clean x f) × ((b : _) → Without x (k b))

filled-clean : {A : Type 0} (x : ℕ) (form : Form A) → Without x form → (fs : List (List ℕ)) (a : A) → filled form fs ≡ some a → AllClean x fs
unfolding filled Without AllClean
filled-clean x (ends b) h [] a e = tt
filled-clean x (ends b) h (f ∷ fs) a e = absurd (nothing e)
filled-clean x (field read k) h [] a e = absurd (nothing e)
filled-clean x (field read k) h (f ∷ fs) a e = go (read f) refl (λ b q. filled-clean x (k b) (h.1 b) fs a q) e
  where
    go : (o : Option _) → read f ≡ o → ((b : _) → filled (k b) fs ≡ some a → AllClean x fs) → onward (taken o fs) (λ b rest. filled (k b) rest) ≡ some a → Clean x f × AllClean x fs
    go none q on e = absurd (nothing e)
    go (some b) q on e = (h.0 f b q, on b e)

point-without : Without 10 point_form
unfolding Without point_form Clean
point-without = (
  λ f b e. rw (letter-text 80 b f e) (λ q. omega arith, tt),
  λ _. (
    clean-named a-feed,
    λ _. (clean-number a-feed, λ _. (clean-number a-feed, λ _. (clean-number a-feed, λ _. (clean-number a-feed, λ _. (clean-number a-feed, λ _. (clean-number a-feed, λ _. (clean-number a-feed, λ _. tt))))))),
  ),
)

-- ---- where the first line ends
-- at the first line feed
first-feed : (w : List ℕ) (k : ℕ) → k < length w → get_or w k 0 ≡ 10 → Clean 10 (take k w) → k + 1 ≡ first_length w
first-feed w k h e c =
    let n = length-take-le k w (omega arith) in
    let clear : Clear k w 0 = record { none = λ i l q. clean_at 10 (take k w) c i (omega arith) (get_or-take k w i 0 l ∙ ap (λ (j : ℕ). get_or w j 0) (sym (zero-add i)) ∙ q) } in
    let on : Onward w 0 k = rw (zero-add k) at (skip k w 0 0 (record { ends = refl }) (omega arith) clear) in
    at-feed w 0 k on h e ∙ first-end w

body-to : (w : List ℕ) (k : ℕ) → k < length w → k < 200 → get_or w k 0 ≡ 10 → body (take (k + 1) w) ≡ some (take k w)
body-to w k h s e =
    let n = length-take-le (k + 1) w (omega arith) in
    let m : length (take (k + 1) w) - 1 ≡ k = omega arith in
    W.framed (take (k + 1) w) (omega arith) (omega arith) (rw m (get_or-take (k + 1) w k 0 (omega arith) ∙ e))
    ∙ ap some (rw m (take-take k (k + 1) w (omega arith)))

-- fields that tell a point, up to a line feed
pub first : (w : List ℕ) (k : ℕ) {v : Point × ℕ} → k < length w → k < 200 → get_or w k 0 ≡ 10 → Told (take k w) capped_placed point_form 0 v (k + 1) → First w v (k + 1)
first w k {v} h s e t = go (filled point_form (fields (take k w))) refl (rw (W.from_start (take k w)) at t.tells)
  where
    go : (o : Option Point) → filled point_form (fields (take k w)) ≡ o → TellsLine (take k w) capped_placed o v (k + 1) → First w v (k + 1)
    go none q u = absurd (u (omega (arith, length-take-le k w (omega arith))))
    go (some p) q u = record {
      point = p;
      says = ap (in_body point_form) (body-to w k h s e) ∙ q;
      told = u.0;
      ends = first-feed w k h e (clean_line 10 (λ z. omega arith) (take k w) (filled-clean 10 point_form point-without (fields (take k w)) p q));
    }

-- ---- the last field, by the tests that the code makes
pub ended : {s : List ℕ} {at feed next : ℕ} {v : ℤ} → (at ≤ feed) × (feed < length s) → Got (take feed s) capped_z number_of at v next → ((eqb next (feed + 1) && eqb (get_or s feed 0) 10) && ltb feed 200) ≡ true → Ended s at v next
ended {s} {at} {feed} {next} {v} h g e =
    let a = both (eqb next (feed + 1) && eqb (get_or s feed 0) 10) (ltb feed 200) e in
    let b = both (eqb next (feed + 1)) (eqb (get_or s feed 0) 10) a.0 in
    record {
      feed = feed;
      past = eqb-true next (feed + 1) b.0;
      behind = h.0;
      inside = h.1;
      short = ltb-true feed 200 a.1;
      is = eqb-true (get_or s feed 0) 10 b.1;
      got = g;
    }
