-- The steps of a chain by their index: what is left to examine from an index on. Assumes nothing.
use mathlib.Core.Path.{◌≡◌, refl, sym, ◌∙◌, ap}
use mathlib.Core.List.{List, [], ◌∷◌, ◌++◌}
use Prim.Native.Nat.{ℕ, zero, suc, ◌+◌, ◌<◌}
use native.Mathlib.Nat as NatL
use native.Mathlib.Numerals.{add-one}
use native.Mathlib.Omega.{arith}
use lib.IntN.{ℤ}
use lib.ListN.{length, take, drop, get_or, length-take}
use lib.Seq.{drop-cons, get_or-take}
use Rattle.refusal.specs.Order.{first}
use Rattle.chain.specs.declared.Realization.{Realization}
use Rattle.chain.specs.declared.Step.{Step}
use Rattle.chain.specs.Faults.{StepOk, step_tests, join_test, later_tests, steps_tests}
use Rattle.chain.specs.Join.{past_steps}
use Rattle.chain.specs.Convert.{start_of, end_of}
use Rattle.refusal.proofs.Orders.{or_else, first-append}
use Rattle.chain.proofs.Accepted.{Sound}

-- what an index past the end reads as
abbrev pub step_past_end : Step
step_past_end = past_steps

-- a step that follows another: its tests and the join, then the rest
pub later_first : (y : ℤ) (s t : Step) (ts : List Step) → first (later_tests y s (t ∷ ts)) ≡ or_else (first (step_tests y t ++ (join_test s t ∷ []))) (first (later_tests y t ts))
later_first y s t ts = first-append (step_tests y t ++ (join_test s t ∷ [])) (later_tests y t ts) tt

module _ (l : List Step) (n i : ℕ) (below : i < n) (inside : i < length l) where
  abbrev here : Step
  here = get_or l i step_past_end

  -- the steps from index i on, below n
  pub from : drop i (take n l) ≡ here ∷ drop (i + 1) (take n l)
  from =
      let long : i < length (take n l) = simp length-take (omega arith) in
      drop-cons (take n l) i step_past_end long
      ∙ ap (λ (s : Step). s ∷ drop (suc i) (take n l)) (get_or-take n l i step_past_end below)
      ∙ ap (λ (j : ℕ). here ∷ drop j (take n l)) (sym (add-one i))

  pub later-from : (y : ℤ) (s : Step) → first (later_tests y s (drop i (take n l))) ≡ or_else (first (step_tests y here ++ (join_test s here ∷ []))) (first (later_tests y here (drop (i + 1) (take n l))))
  later-from y s = ap (λ (ss : List Step). first (later_tests y s ss)) from ∙ later_first y s here (drop (i + 1) (take n l))

-- nothing is left at the end
pub none_left : (l : List Step) (n : ℕ) → drop n (take n l) ≡ []
none_left l zero = refl
none_left [] (suc n) = refl
none_left (x ∷ xs) (suc n) = none_left xs n

-- each step of a sound chain is sound
pub sound-at : (l : List Step) (n i : ℕ) → i < n → i < length l → Sound (take n l) → StepOk (get_or l i step_past_end)
sound-at [] n i h k ok = absurd (NatL.not-suc-le-zero k)
sound-at (x ∷ xs) zero i h k ok = absurd (NatL.not-suc-le-zero h)
sound-at (x ∷ xs) (suc n) zero h k ok = ok.0
sound-at (x ∷ xs) (suc n) (suc i) h k ok = sound-at xs n i (NatL.le_of_suc-le-suc h) (NatL.le_of_suc-le-suc k) ok.1

-- ---- the first and the last step
pub first-tests : (y : ℤ) (l : List Step) (n : ℕ) → 0 < n → 0 < length l → first (steps_tests y (take n l)) ≡ or_else (first (step_tests y (get_or l 0 step_past_end))) (first (later_tests y (get_or l 0 step_past_end) (drop 1 (take n l))))
first-tests y [] n h k = absurd (NatL.not-suc-le-zero k)
first-tests y (x ∷ xs) zero h k = absurd (NatL.not-suc-le-zero h)
first-tests y (x ∷ xs) (suc n) h k = first-append (step_tests y x) (later_tests y x (take n xs)) tt

pub start-at : (l : List Step) (n : ℕ) (r : Realization) → 0 < n → 0 < length l → start_of r (take n l) ≡ (get_or l 0 step_past_end).before
unfolding start_of
start-at [] n r h k = absurd (NatL.not-suc-le-zero k)
start-at (x ∷ xs) zero r h k = absurd (NatL.not-suc-le-zero h)
start-at (x ∷ xs) (suc n) r h k = refl

pub end-at : (l : List Step) (i : ℕ) (r : Realization) → i < length l → end_of r (take (suc i) l) ≡ (get_or l i step_past_end).after
unfolding end_of
end-at [] i r k = absurd (NatL.not-suc-le-zero k)
end-at (x ∷ xs) zero r k = refl
end-at (x ∷ xs) (suc i) r k = end-at xs i x.after (NatL.le_of_suc-le-suc k)
