-- A written line is read back.
use Rattle.std.proofs.Common.{◌≡◌, ℕ, ◌+◌, ◌-◌, ◌≤◌, List, [], ◌∷◌, ◌++◌, length, ℤ, sym, refl, ap, ◌∙◌, append_assoc, arith, length-append, eq-eqb}
use mathlib.Core.Option.{some}
use lib.Seq.{get_or-append_seam, take-append_seam}
use Rattle.line.specs.Text.{integer, name_text, line_text, point_text}
use Rattle.line.specs.Fields.{body, fields, Form, filled, said}
use Rattle.chain.specs.declared.Point.{Point}
use Rattle.chain.specs.Faults.{point_fault}
use Rattle.line.specs.Answers.{Good}
use Rattle.line.specs.Forms.{point_form}
use Rattle.line.specs.Readers.{read_point}
use Rattle.line.proofs.Lengths.{length-point}
use Rattle.line.proofs.Walk as W
use Rattle.line.proofs.Clean.{Clean, AllClean, a-tab, fields-clean, fields-tab, clean-number, clean-named}
use Rattle.line.proofs.WrittenNumbers.{number-back}
use Rattle.line.proofs.WrittenNames.{Named, name_back}

-- fields parted by tabs
joined : List ℕ → List (List ℕ) → List ℕ
joined f [] = f
joined f (g ∷ fs) = f ++ (9 ∷ joined g fs)

clean-integer : (z : ℤ) → Clean 9 (integer z)
clean-integer z = clean-number a-tab (integer z) z (number-back z)

fields-joined : (f : List ℕ) (fs : List (List ℕ)) → Clean 9 f → AllClean 9 fs → fields (joined f fs) ≡ f ∷ fs
unfolding joined AllClean
fields-joined f [] c cs = fields-clean f c
fields-joined f (g ∷ fs) c cs = fields-tab f (joined g fs) c ∙ ap (λ (l : List (List ℕ)). f ∷ l) (fields-joined g fs cs.0 cs.1)

line-joined : (f : List ℕ) (fs : List (List ℕ)) → line_text (f ∷ fs) ≡ joined f fs ++ (10 ∷ [])
unfolding joined line_text
line-joined f [] = refl
line-joined f (g ∷ fs) = ap (λ (l : List ℕ). f ++ (9 ∷ l)) (line-joined g fs) ∙ sym (append_assoc f (9 ∷ joined g fs) (10 ∷ []))

body-joined : (s : List ℕ) → length (s ++ (10 ∷ [])) ≤ 200 → body (s ++ (10 ∷ [])) ≡ some s
body-joined s h =
    let n = length-append s (10 ∷ []) in
    let e : length (s ++ (10 ∷ [])) - 1 ≡ length s = omega arith in
    W.framed (s ++ (10 ∷ [])) (omega arith) h (rw e (get_or-append_seam s 10 [] 0)) ∙ ap some (rw e (take-append_seam s (10 ∷ [])))

-- a line of clean fields, written and read
line-back : {A : Type 0} (form : Form A) (f : List ℕ) (fs : List (List ℕ)) → length (line_text (f ∷ fs)) ≤ 200 → Clean 9 f → AllClean 9 fs → said form (line_text (f ∷ fs)) ≡ filled form (f ∷ fs)
line-back form f fs h c cs =
    let e = line-joined f fs in
    let b = body-joined (joined f fs) (rw e at h) in
    rw (e, b) (ap (filled form) (fields-joined f fs c cs))

-- ---- a point line: written for a point with no fault and an id that a line can hold, it is read back as the point
module _ (y : ℤ) (p : Point) (None-found : point_fault y p ≡ 0) (named : Named p.label.id) where
  abbrev after-letter : List (List ℕ)
  after-letter =
      name_text p.label.id
      ∷ integer p.label.issue
      ∷ integer p.label.order
      ∷ integer p.realization.datum
      ∷ integer p.realization.epoch
      ∷ integer p.position.x
      ∷ integer p.position.y
      ∷ integer p.position.z
      ∷ []

  clean-fields : AllClean 9 after-letter
  unfolding AllClean
  clean-fields = (
    clean-named a-tab (name_text p.label.id) p.label.id (name_back p.label.id named),
    (
      clean-integer p.label.issue,
      (
        clean-integer p.label.order,
        (
          clean-integer p.realization.datum,
          (clean-integer p.realization.epoch, (clean-integer p.position.x, (clean-integer p.position.y, (clean-integer p.position.z, tt)))),
        ),
      ),
    ),
  )

  filled-point : filled point_form ((80 ∷ []) ∷ after-letter) ≡ some p
  unfolding filled point_form
  filled-point =
      rw (name_back p.label.id named, number-back p.label.issue, number-back p.label.order, number-back p.realization.datum, number-back p.realization.epoch, number-back p.position.x, number-back p.position.y, number-back p.position.z)

  clean-letter : Clean 9 (80 ∷ [])
  unfolding Clean
  clean-letter = (λ e. omega arith, tt)

  pub point-said : said point_form (point_text p) ≡ some p
  unfolding point_text
  point-said =
      line-back point_form (80 ∷ []) after-letter (let h = length-point y p None-found in omega arith) clean-letter clean-fields ∙ filled-point

  pub point-back : read_point y (point_text p) ≡ Good p
  unfolding read_point
  point-back = rw (point-said, eq-eqb (point_fault y p) 0 None-found)
