-- What a point line is answered by what it says. Assumes nothing.
use Rattle.std.proofs.Common.{◌≡◌, ℕ, ◌-◌, ◌<◌, List, length, take, ℤ, sym, refl, ap, ◌∙◌, arith}
use mathlib.Core.Option.{Option, none, some}
use Rattle.chain.specs.declared.Point.{Point}
use Rattle.chain.specs.Faults.{point_fault}
use Rattle.line.specs.Answers.{Fault, Line, Good, Malformed, Refused}
use Rattle.line.specs.Fields.{body, fields, filled, in_body, said}
use Rattle.line.specs.Forms.{point_form}
use Rattle.line.specs.Malformed.{point_shape, fault_of}
use Rattle.line.specs.Reading.{TellsLine, Told, capped_point, capped_placed}
use Rattle.line.specs.Text.{label_text}
use Rattle.line.specs.Readers.{judged, read_as, read_point, place_of, datum_place}
use Rattle.line.proofs.Answers as A
use Rattle.line.proofs.Faults as F
use Rattle.line.proofs.GoodForm.{point-exactly}
use Rattle.line.proofs.Malformed.{body-is}
use Rattle.line.proofs.Walk as W

-- the line as it is read, and the place of its datum
module _ (y : ℤ) (l : List ℕ) where
  pub answer : Option Point → Line Point × ℕ
  answer o = (read_as (point_fault y) Good Refused (Malformed (fault_of point_shape l)) o, place_of o)

  pub answered : {r : Line Point} {n : ℕ} → (r, n) ≡ answer (said point_form l) → (r ≡ read_point y l) × (n ≡ datum_place l)
  unfolding read_point datum_place answer
  answered e = (ap (λ (x : Line Point × ℕ). x.0) e, ap (λ (x : Line Point × ℕ). x.1) e)

  pub good : {r : Line Point} {n : ℕ} {p : Point} → r ≡ judged (point_fault y) Good Refused p → (a : Point) → (p, n) ≡ capped_placed a → (r, n) ≡ answer (some a)
  unfolding answer
  good {r} {n} {p} j a q =
      let e : p ≡ capped_point a = ap (λ (x : Point × ℕ). x.0) q in
      let m : n ≡ length (label_text a.label) = ap (λ (x : Point × ℕ). x.1) q in
      rw (j ∙ ap (judged (point_fault y) Good Refused) e ∙ A.judged-same (point_fault y) Good Refused (F.careful-point y) a, m)

  pub bad : {f : Fault} → f ≡ fault_of point_shape l → (Malformed f, 0) ≡ answer none
  unfolding answer
  bad e = rw e

  pub faulty : {f : Fault} → f ≡ fault_of point_shape l → 0 < f.number → (Malformed f, 0) ≡ answer (said point_form l)
  faulty {f} e h = bad e ∙ ap answer (sym ((point-exactly l).1 (rw e at h)))

  -- nothing is wrong with the line: it has a body, and its fields are told
  pub bodied : 0 ≡ (fault_of point_shape l).number → (s : List ℕ) × (body l ≡ some s)
  bodied z = go (body l) refl
    where
      go : (o : Option (List ℕ)) → body l ≡ o → (s : List ℕ) × (body l ≡ some s)
      go none e = let w = (point-exactly l).0 (ap (in_body point_form) e) in absurd (omega arith)
      go (some s) e = (s, e)

  pub whole : {r : Line Point} {p : Point} {n next : ℕ} → 0 ≡ (fault_of point_shape l).number → Told (take (length l - 1) l) capped_placed point_form 0 (p, n) next
      → r ≡ judged (point_fault y) Good Refused p → (r, n) ≡ answer (said point_form l)
  whole {r} {p} {n} {next} z told j = go (said point_form l) refl (rw (body-is l (bodied z).0 (bodied z).1, W.from_start (bodied z).0) at told.tells)
    where
      is : said point_form l ≡ filled point_form (fields (bodied z).0)
      is = ap (in_body point_form) (bodied z).1

      go : (o : Option Point) → said point_form l ≡ o → TellsLine (bodied z).0 capped_placed (filled point_form (fields (bodied z).0)) (p, n) next → (r, n) ≡ answer (said point_form l)
      go none e t = let w = (point-exactly l).0 e in absurd (omega arith)
      go (some a) e t =
          let k : TellsLine (bodied z).0 capped_placed (some a) (p, n) next = rw (sym is ∙ e) at t in
          good j a k.0 ∙ ap answer (sym e)
