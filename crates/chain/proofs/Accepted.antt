-- What a conversion that is not refused went by: no test failed, and the walk ended where the answer says. Assumes nothing.
use mathlib.Core.Path.{◌≡◌, refl, sym, ◌∙◌, ap}
use mathlib.Core.Bool.{true}
use mathlib.Core.List.{List, [], ◌∷◌, ◌++◌}
use Prim.Native.Nat.{ℕ, zero, suc, ◌≤◌}
use lib.IntN.{ℤ}
use borrow.Author.Tests.{ltb-false}
use lib.Dec.{T, ltb}
use Rattle.refusal.specs.Numbers as refusal
use Rattle.refusal.specs.Order.{first, unless}
use Rattle.refusal.proofs.Orders.{numbered, passed, step-passed, head-holds, stop, on, both-pass, unless-some}
use Rattle.chain.specs.declared.Realization.{Realization}
use Rattle.chain.specs.declared.Point.{Point}
use Rattle.chain.specs.declared.Step.{Step}
use Rattle.chain.specs.declared.Chain.{Chain}
use Rattle.chain.specs.declared.Arrival.{Arrival}
use Rattle.chain.specs.Convert.{Answer}
use Rattle.std.specs.Prelude.{Ok, Err}
use Rattle.chain.specs.Faults.{same_realization, in_area, has_step, point_tests, step_tests, StepOk, step_fault, join_test, later_tests, steps_tests, chain_tests, steps_of}
use Rattle.ranges.specs.Ranges.{profile_range}
use Rattle.chain.proofs.Sizes.{step_ok, step-had}
use Rattle.chain.specs.Convert.{Walk, at, left, walk, forward_step, start_of, end_of, realization_and_area_tests, conversion_tests, moved_to}
use Rattle.chain.specs.Convert.{answer_of, arrival_of, convert, forward_of}

-- something holds of each step
abbrev pub Each : (Step → Type 0) → List Step → Type 0
Each P [] = Unit {0}
Each P (s ∷ ss) = P s × Each P ss

-- no step is refused by itself, and the profile has each
abbrev pub Sound : List Step → Type 0
Sound = Each StepOk

abbrev pub Held : ℤ → List Step → Type 0
Held y = Each (λ (s : Step). has_step y s ≡ true)

-- ---- the chain's tests
module _ (y : ℤ) where
  numbered-later : (s : Step) (ss : List Step) → T (numbered (later_tests y s ss))
  numbered-later s [] = tt
  numbered-later s (t ∷ ts) = numbered-later t ts

  pub numbered-steps : (ss : List Step) → T (numbered (steps_tests y ss))
  numbered-steps [] = tt
  numbered-steps (s ∷ ss) = numbered-later s ss

  -- whatever holds of a step with no fault of its own holds of each
  module _ (P : Step → Type 0) (alone : (s : Step) → step_fault y s ≡ 0 → P s) where
    each-later : (s : Step) (ss : List Step) → first (later_tests y s ss) ≡ 0 → Each P ss
    unfolding step_fault
    each-later s [] e = tt
    each-later s (t ∷ ts) e =
        let f = both-pass (step_tests y t) (join_test s t ∷ later_tests y t ts) tt e in
        (alone t f.0, each-later t ts (head-holds (same_realization s.after t.before) _ (first (later_tests y t ts)) f.1).1)

    each_step : (ss : List Step) → first (steps_tests y ss) ≡ 0 → Each P ss
    unfolding step_fault
    each_step [] e = tt
    each_step (s ∷ ss) e = let f = both-pass (step_tests y s) (later_tests y s ss) tt e in (alone s f.0, each-later s ss f.1)

  pub sound-steps : (ss : List Step) → first (steps_tests y ss) ≡ 0 → Sound ss
  sound-steps = each_step StepOk (step_ok y)

  pub held_steps : (ss : List Step) → first (steps_tests y ss) ≡ 0 → Held y ss
  held_steps = each_step (λ (s : Step). has_step y s ≡ true) (step-had y)

pub chain-passed : (c : Chain) → first (chain_tests c) ≡ 0 → (c.length ≤ 8) × (first (steps_tests c.profile (steps_of c)) ≡ 0)
chain-passed c e =
    let m = head-holds (profile_range c.profile) _ _ e in
    let n = step-passed (ltb 8 c.length) refusal.ninth (first (steps_tests c.profile (steps_of c))) tt m.1 in
    (ltb-false 8 c.length n.0, n.1)

pub chain-holds : (c : Chain) → first (chain_tests c) ≡ 0 → (c.length ≤ 8) × Sound (steps_of c)
chain-holds c e = let n = chain-passed c e in (n.0, sound-steps c.profile (steps_of c) n.1)

-- ---- all of a conversion's
pub record Accepted (c : Chain) (p : Point) (wanted : Realization) : Type 0 where
  pub short : c.length ≤ 8
  pub sound : Sound (steps_of c)
  pub held : Held c.profile (steps_of c)
  pub here : same_realization p.realization wanted ≡ true
  pub area : in_area p.position ≡ true

pub accepted : (c : Chain) (p : Point) (wanted : Realization) → first (conversion_tests c p wanted) ≡ 0 → Accepted c p wanted
accepted c p wanted e =
    let f = both-pass (chain_tests c) (point_tests c.profile p ++ realization_and_area_tests p wanted) (numbered-steps c.profile (steps_of c)) e in
    let n = chain-passed c f.0 in
    let g = both-pass (point_tests c.profile p) (realization_and_area_tests p wanted) tt f.1 in
    let h = head-holds (same_realization p.realization wanted) _ _ g.1 in
    record { short = n.0; sound = sound-steps c.profile (steps_of c) n.1; held = held_steps c.profile (steps_of c) n.1; here = h.0; area = (head-holds (in_area p.position) _ 0 h.1).0 }

-- ---- how the code answers: the chain decides first, then the point, then the walk
abbrev pub entry : ℤ → Point → Realization → ℕ
entry y p wanted = first (point_tests y p ++ realization_and_area_tests p wanted)

pub entry-area : (y : ℤ) (p : Point) (wanted : Realization) → entry y p wanted ≡ 0 → in_area p.position ≡ true
entry-area y p wanted e =
    let g = both-pass (point_tests y p) (realization_and_area_tests p wanted) tt e in
    (head-holds (in_area p.position) _ 0 (head-holds (same_realization p.realization wanted) _ _ g.1).1).0

module _ (c : Chain) (p : Point) (wanted reached : Realization) (w : Walk) where
  all-numbered : T (numbered (chain_tests c))
  all-numbered = numbered-steps c.profile (steps_of c)

  chain-silent : first (chain_tests c) ≡ 0 → first (conversion_tests c p wanted) ≡ entry c.profile p wanted
  chain-silent e = on (chain_tests c) (point_tests c.profile p ++ realization_and_area_tests p wanted) (passed (chain_tests c) all-numbered e)

  pub by_chain : (first (chain_tests c) ≡ 0 → ⊥) → Err (first (chain_tests c)) ≡ convert c p wanted reached w
  unfolding convert
  by_chain h =
      sym (unless-some (first (chain_tests c)) Err (answer_of p reached w) h)
      ∙ ap (λ (n : ℕ). unless n Err (answer_of p reached w)) (sym (stop (chain_tests c) (point_tests c.profile p ++ realization_and_area_tests p wanted) h))

  pub by-point : first (chain_tests c) ≡ 0 → (entry c.profile p wanted ≡ 0 → ⊥) → Err (entry c.profile p wanted) ≡ convert c p wanted reached w
  unfolding convert
  by-point e h =
      sym (unless-some (entry c.profile p wanted) Err (answer_of p reached w) h)
      ∙ ap (λ (n : ℕ). unless n Err (answer_of p reached w)) (sym (chain-silent e))

  pub by-walk : first (chain_tests c) ≡ 0 → entry c.profile p wanted ≡ 0 → answer_of p reached w ≡ convert c p wanted reached w
  unfolding convert
  by-walk e h = ap (λ (n : ℕ). unless n Err (answer_of p reached w)) (sym h ∙ sym (chain-silent e))

-- ---- an answer from where the point arrives
pub arrival-refused : (a : Answer) {n : ℕ} → Err n ≡ arrival_of a → Err n ≡ a
arrival-refused (Ok q) e = cc
arrival-refused (Err m) e = cc

walk-arrived : (n : ℕ) (p : Point) (reached : Realization) (w : Walk) {r : Arrival} → Ok r ≡ arrival_of (unless n Err (answer_of p reached w))
    → Ok (moved_to p r.realization r.position) ≡ unless n Err (answer_of p reached w)
unfolding answer_of
walk-arrived zero p reached (at q) {r} e =
    let f : r ≡ record { realization = reached; position = q } = cc in
    ap (λ (r : Arrival). Ok (moved_to p r.realization r.position)) f
walk-arrived zero p reached left e = cc
walk-arrived (suc n) p reached w e = cc

pub forward-arrived : (c : Chain) (p : Point) {r : Arrival} → Ok r ≡ arrival_of (forward_of c p) → Ok (moved_to p r.realization r.position) ≡ forward_of c p
unfolding forward_of convert
forward-arrived c p e =
    let r = p.realization in
    let ss = steps_of c in
    walk-arrived (first (conversion_tests c p (start_of r ss))) p (end_of r ss) (walk forward_step ss p.position) e

-- ---- a converted point
pub record Conversion (c : Chain) (p : Point) (wanted reached : Realization) (w : Walk) (q : Point) : Type 0 where
  pub accept : Accepted c p wanted
  pub ended : w ≡ at q.position
  pub is : q ≡ moved_to p reached q.position

module _ (c : Chain) (p : Point) (wanted reached : Realization) where
  answered : (n : ℕ) (w : Walk) (q : Point) → unless n Err (answer_of p reached w) ≡ Ok q → (n ≡ 0) × (w ≡ at q.position) × (q ≡ moved_to p reached q.position)
  unfolding answer_of
  answered zero (at x) q e =
      let f : moved_to p reached x ≡ q = cc in
      (refl, ap (λ (t : Point). at t.position) f, sym f ∙ ap (λ (t : Point). moved_to p reached t.position) f)
  answered zero left q e = (refl, cc, cc)
  answered (suc n) w q e = (cc, cc, cc)

  pub converted : (w : Walk) (q : Point) → convert c p wanted reached w ≡ Ok q → Conversion c p wanted reached w q
  unfolding convert
  converted w q e =
      let f = answered (first (conversion_tests c p wanted)) w q e in
      record { accept = accepted c p wanted f.0; ended = f.1; is = f.2 }
