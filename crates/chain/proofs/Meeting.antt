-- Steps after other steps: where the row of both starts and ends, when two rows meet, and that two rows without fault that meet are one without fault. Assumes nothing.
use mathlib.Core.Path.{◌≡◌, refl, sym, ◌∙◌, ap, ap₂}
use mathlib.Core.Bool.{true}
use mathlib.Core.List.{List, [], ◌∷◌, ◌++◌, append-nil}
use lib.IntN.{ℤ}
use Rattle.refusal.specs.Order.{first}
use Rattle.refusal.proofs.Orders.{first-append, both-pass, head-holds}
use Rattle.ranges.proofs.Ranges.{all}
use Rattle.chain.specs.declared.Realization.{Realization}
use Rattle.chain.specs.declared.Step.{Step}
use Rattle.chain.specs.Faults.{same_realization, has_kind, has_datum, has_step, step_tests, join_test, later_tests, steps_tests}
use Rattle.chain.specs.Convert.{start_of, end_of}
use Rattle.chain.specs.Join.{meet}
use Rattle.chain.proofs.Within.{same-is, same_self}
use Rattle.chain.proofs.Accepted.{Sound, Held}
use Rattle.chain.proofs.PointLaws.{Dated}

-- ---- where they start and end
ends-in : (r : Realization) (ss : List Step) (t : Step) (ts : List Step) → end_of r (ss ++ (t ∷ ts)) ≡ end_of r (t ∷ ts)
unfolding end_of
ends-in r [] t ts = refl
ends-in r (s ∷ ss) t ts = ends-in s.after ss t ts

-- where some steps end does not hang on where one came from
some_end : (r r' : Realization) (s : Step) (ss : List Step) → end_of r (s ∷ ss) ≡ end_of r' (s ∷ ss)
unfolding end_of
some_end r r' s ss = refl

pub end-in : (r r' : Realization) (ss ts : List Step) → (ts ≡ [] → ⊥) → end_of r (ss ++ ts) ≡ end_of r' ts
end-in r r' ss [] k = absurd (k refl)
end-in r r' ss (t ∷ ts) k = ends-in r ss t ts ∙ some_end r r' t ts

pub start-in : (r : Realization) (ss ts : List Step) → (ss ≡ [] → ⊥) → start_of r (ss ++ ts) ≡ start_of r ss
unfolding start_of
start-in r [] ts h = absurd (h refl)
start-in r (s ∷ ss) ts h = refl

pub start-some : (r r' : Realization) (ss : List Step) → (ss ≡ [] → ⊥) → start_of r ss ≡ start_of r' ss
unfolding start_of
start-some r r' [] h = absurd (h refl)
start-some r r' (s ∷ ss) h = refl

pub start-dated : (y : ℤ) (r : Realization) (ts : List Step) → (ts ≡ [] → ⊥) → Sound ts → Held y ts → Dated y (start_of r ts)
unfolding start_of has_step
start-dated y r [] k ok had = absurd (k refl)
start-dated y r (t ∷ ts) k ok had =
    let o = ok.0 in
    let h = all (has_kind y t.kind) (has_datum y t.before) (has_datum y t.after) had.0 in
    record { range = o.before; agree = o.agree; had = h.1 }

-- ---- where they meet
same-eq : (a b : Realization) → same_realization a b ≡ true → a ≡ b
same-eq a b e = let f = same-is a b e in ap₂ (λ (d y : ℤ). record { datum = d; epoch = y }) f.0 f.1

pub meeting : (r r' : Realization) (ss ts : List Step) → (ss ≡ [] → ⊥) → (ts ≡ [] → ⊥) → meet ss ts ≡ true → end_of r ss ≡ start_of r' ts
unfolding end_of start_of
meeting r r' [] ts h k e = absurd (h refl)
meeting r r' (s ∷ ss) [] h k e = absurd (k refl)
meeting r r' (s ∷ ss) (t ∷ ts) h k e = same-eq (end_of s.after ss) t.before e

pub none-meet : (ts : List Step) → meet [] ts ≡ true
unfolding end_of
none-meet [] = refl
none-meet (t ∷ ts) = same_self t.before

-- of three rows: where the first two and then the third meet, so do the last two and then the first, and the other way about
pub last_meets : (a b c : List Step) → meet (a ++ b) c ≡ true → meet b c ≡ true
unfolding end_of
last_meets a b [] e = refl
last_meets a [] (t ∷ ts) e = same_self t.before
last_meets a (x ∷ xs) (t ∷ ts) e = ap (λ (r : Realization). same_realization r t.before) (sym (ends-in t.before a x xs)) ∙ e

pub first-meets : (a b c : List Step) → meet a b ≡ true → meet (a ++ b) c ≡ true → meet a (b ++ c) ≡ true
first-meets a [] c e f = ap (λ (l : List Step). meet l c) (sym (append-nil a)) ∙ f
first-meets a (x ∷ xs) c e f = e

pub inner_meets : (a b c : List Step) → meet a (b ++ c) ≡ true → meet a b ≡ true
inner_meets a [] c e = refl
inner_meets a (x ∷ xs) c e = e

pub outer-meets : (a b c : List Step) → meet b c ≡ true → meet a (b ++ c) ≡ true → meet (a ++ b) c ≡ true
unfolding end_of
outer-meets a [] c e f = ap (λ (l : List Step). meet l c) (append-nil a) ∙ f
outer-meets a (x ∷ xs) [] e f = refl
outer-meets a (x ∷ xs) (t ∷ ts) e f = ap (λ (r : Realization). same_realization r t.before) (ends-in t.before a x xs) ∙ e

-- ---- without fault, and meeting: one row without fault
module _ (y : ℤ) where
  later-joined :
      (s : Step) (ss : List Step) (t : Step) (ts : List Step) → first (later_tests y s ss) ≡ 0 → first (steps_tests y (t ∷ ts)) ≡ 0 →
      same_realization (end_of s.after ss) t.before ≡ true → first (later_tests y s (ss ++ (t ∷ ts))) ≡ 0
  unfolding end_of
  later-joined s [] t ts e f j =
      let p = both-pass (step_tests y t) (later_tests y t ts) tt f in
      first-append (step_tests y t) (join_test s t ∷ later_tests y t ts) tt ∙ rw (p.0, j) p.1
  later-joined s (u ∷ us) t ts e f j =
      let p = both-pass (step_tests y u) (join_test s u ∷ later_tests y u us) tt e in
      let q = head-holds (same_realization s.after u.before) _ (first (later_tests y u us)) p.1 in
      first-append (step_tests y u) (join_test s u ∷ later_tests y u (us ++ (t ∷ ts))) tt ∙ rw (p.0, q.0) (later-joined u us t ts q.1 f j)

  pub steps-joined : (ss ts : List Step) → first (steps_tests y ss) ≡ 0 → first (steps_tests y ts) ≡ 0 → meet ss ts ≡ true → first (steps_tests y (ss ++ ts)) ≡ 0
  unfolding end_of
  steps-joined [] ts e f j = f
  steps-joined (s ∷ ss) [] e f j = ap (λ (l : List Step). first (steps_tests y l)) (append-nil (s ∷ ss)) ∙ e
  steps-joined (s ∷ ss) (t ∷ ts) e f j =
      let p = both-pass (step_tests y s) (later_tests y s ss) tt e in
      first-append (step_tests y s) (later_tests y s (ss ++ (t ∷ ts))) tt ∙ rw p.0 (later-joined s ss t ts p.1 f j)
