-- A chain as numbers: its steps are those that stand there, and where the test on the numbers passes, no test of the chain fails. Assumes nothing.
use mathlib.Core.Path.{◌≡◌, refl, sym, ◌∙◌, ap, subst, subst⁻¹}
use mathlib.Core.Bool.{Bool, true, false, ◌&&◌}
use mathlib.Core.List.{List, [], ◌∷◌}
use Prim.Native.Nat.{ℕ, zero, suc, ◌+◌, ◌-◌, ◌*◌, ◌/◌, ◌<◌, ◌≤◌}
use native.Mathlib.Omega.{arith}
use borrow.Author.Tests.{le-leb, lt-leb, le-ltb}
use lib.IntN.{ℤ}
use lib.ListN.{length, take, drop, get_or, set, replicate, length-drop, length-set}
use Rattle.std.proofs.lemmas.Bool.{cases_lt}
use Rattle.std.proofs.Common.{◌⊎◌, inl, inr}
use Rattle.std.proofs.lemmas.List.{ext_get_or, get_or-set_same, get_or-set_other, get_or-replicate}
use lib.Seq.{take_all}
use Rattle.refusal.specs.Order.{first}
use Rattle.refusal.proofs.Orders.{passed, on}
use Rattle.ranges.specs.Ranges.{profile_range}
use Rattle.ranges.proofs.Ranges.{both, all}
use Rattle.chain.specs.declared.Realization.{Realization}
use Rattle.chain.specs.declared.Step.{Step}
use Rattle.chain.specs.Faults.{realization_range, agrees, same_realization, has_datum, has_kind, has_step, kind_range, kind_rule, step_range, StepOk, step_tests, join_test, later_tests, steps_tests, chain_tests}
use Rattle.chain.specs.Convert.{start_of, end_of}
use Rattle.chain.specs.Numbers.{step_from, no_step, step_or_none, eight_from, chain_from, steps_in, dated, good_kind, follows, all_follow, good_steps}
use Rattle.chain.proofs.Within.{same-is}
use Rattle.chain.proofs.AtIndex.{step_past_end, from, sound-at, start-at, end-at}
use Rattle.chain.proofs.Accepted.{Sound, chain-holds}

-- the rest of a row from an index on, as a part of it
pub rest-is : (ns : List ℤ) (at : ℕ) → take (length ns - at) (drop at ns) ≡ drop at ns
rest-is ns at =
    let whole : length (drop at ns) ≤ length ns - at = simp length-drop (omega arith) in
    take_all _ _ whole

-- no numbers say no step
pub eight-none : eight_from [] ≡ replicate 8 no_step
unfolding eight_from step_or_none
eight-none = refl

-- ---- the step at an index
module _ (ns : List ℤ) where
  pub eight-steps : length (eight_from ns) ≡ 8
  unfolding eight_from
  eight-steps = refl

  step-or-none-at : (i : ℕ) → i < 8 → get_or (eight_from ns) i step_past_end ≡ step_or_none (drop (13 * i) ns)
  unfolding eight_from
  step-or-none-at zero h = refl
  step-or-none-at (suc zero) h = refl
  step-or-none-at (suc (suc zero)) h = refl
  step-or-none-at (suc (suc (suc zero))) h = refl
  step-or-none-at (suc (suc (suc (suc zero)))) h = refl
  step-or-none-at (suc (suc (suc (suc (suc zero))))) h = refl
  step-or-none-at (suc (suc (suc (suc (suc (suc zero)))))) h = refl
  step-or-none-at (suc (suc (suc (suc (suc (suc (suc zero))))))) h = refl
  step-or-none-at (suc (suc (suc (suc (suc (suc (suc (suc i)))))))) h = absurd (omega arith)

  first-is : 13 ≤ length ns → get_or (eight_from ns) 0 step_past_end ≡ step_from ns
  unfolding eight_from step_or_none
  first-is h = rw (le-leb 13 (length ns) h)

  module _ (few : length ns / 13 ≤ 8) (i : ℕ) (below : i < length ns / 13) where
    -- its thirteen numbers are there
    pub whole : 13 * i + 13 ≤ length ns
    whole = omega arith

    pub step_is : get_or (eight_from ns) i step_past_end ≡ step_from (drop (13 * i) ns)
    unfolding step_or_none
    step_is =
        let h : 13 ≤ length (drop (13 * i) ns) = simp length-drop (omega (arith, whole)) in
        step-or-none-at i (omega arith) ∙ (rw (le-leb 13 (length (drop (13 * i) ns)) h))

    pub steps-from : drop i (steps_in ns) ≡ step_from (drop (13 * i) ns) ∷ drop (i + 1) (steps_in ns)
    steps-from =
        from (eight_from ns) (length ns / 13) i below (omega (arith, eight-steps))
        ∙ ap (λ (s : Step). s ∷ drop (i + 1) (steps_in ns)) step_is

    pub sound-step : Sound (steps_in ns) → StepOk (step_from (drop (13 * i) ns))
    sound-step ok = subst StepOk step_is (sound-at (eight_from ns) (length ns / 13) i below (omega (arith, eight-steps)) ok)

  -- where they start, and where they end
  pub starts-at : (r : Realization) → 13 ≤ length ns → start_of r (steps_in ns) ≡ (step_from ns).before
  starts-at r h = start-at (eight_from ns) (length ns / 13) r (omega arith) (omega (arith, eight-steps)) ∙ ap (λ (s : Step). s.before) (first-is h)

  pub ends_at : (r : Realization) (few : length ns / 13 ≤ 8) (i : ℕ) (last : length ns / 13 ≡ suc i) → end_of r (steps_in ns) ≡ (step_from (drop (13 * i) ns)).after
  ends_at r few i last =
      ap (λ (n : ℕ). end_of r (take n (eight_from ns))) last
      ∙ end-at (eight_from ns) i r (omega (arith, eight-steps))
      ∙ ap (λ (s : Step). s.after) (step_is few i (omega arith))

-- ---- the eight steps, filled from the front
pub record Filled (ns : List ℤ) (steps : List Step) (i : ℕ) : Type 0 where
  pub many : length steps ≡ 8
  pub done : (k : ℕ) → k < i → get_or steps k step_past_end ≡ step_or_none (drop (13 * k) ns)
  pub rest : (k : ℕ) → i ≤ k → k < 8 → get_or steps k step_past_end ≡ no_step

pub none-filled : (ns : List ℤ) {s : Step} → s ≡ no_step → Filled ns (replicate 8 s) 0
none-filled ns e = record { many = refl; done = λ k h. absurd (omega arith); rest = λ k h l. get_or-replicate 8 k _ step_past_end l ∙ e }

pub one_more : (ns : List ℤ) (steps : List Step) (i : ℕ) {s : Step} → 13 * i + 13 ≤ length ns → i < 8 → s ≡ step_from (drop (13 * i) ns) → Filled ns steps i → Filled ns (set steps i s) (i + 1)
unfolding step_or_none
one_more ns steps i {s} enough below e f = record { many = length-set steps i s ∙ f.many; done = done; rest = rest }
  where
    inside : i < length steps
    inside = omega (arith, f.many)

    long : 13 ≤ length (drop (13 * i) ns)
    long = simp length-drop (omega arith)

    here : (k : ℕ) → k ≡ i → get_or (set steps i s) k step_past_end ≡ step_or_none (drop (13 * k) ns)
    here k h = rw h (get_or-set_same steps i s step_past_end inside ∙ e ∙ (rw (le-leb 13 (length (drop (13 * i) ns)) long)))

    done : (k : ℕ) → k < i + 1 → get_or (set steps i s) k step_past_end ≡ step_or_none (drop (13 * k) ns)
    done k h = go (cases_lt k i)
      where
        go : (k < i) ⊎ (i ≤ k) → get_or (set steps i s) k step_past_end ≡ step_or_none (drop (13 * k) ns)
        go (inl l) = get_or-set_other steps i k s step_past_end (omega arith) ∙ f.done k l
        go (inr l) = here k (omega arith)

    rest : (k : ℕ) → i + 1 ≤ k → k < 8 → get_or (set steps i s) k step_past_end ≡ no_step
    rest k h l = get_or-set_other steps i k s step_past_end (omega arith) ∙ f.rest k (omega arith) l

pub all-filled : (ns : List ℤ) (steps : List Step) (i : ℕ) → i ≤ length ns / 13 → (i < 8 → i ≡ length ns / 13) → Filled ns steps i → steps ≡ eight_from ns
unfolding step_or_none
all-filled ns steps i few all f = ext_get_or step_past_end steps (eight_from ns) (omega (arith, f.many, eight-steps ns)) (λ k h. at k (omega (arith, f.many, h)) ∙ sym (step-or-none-at ns k (omega (arith, f.many, h))))
  where
    past : (k : ℕ) → i ≤ k → k < 8 → get_or steps k step_past_end ≡ step_or_none (drop (13 * k) ns)
    past k h l =
        let e : i ≡ length ns / 13 = all (omega arith) in
        let short : length (drop (13 * k) ns) < 13 = simp length-drop (omega (arith, e, h)) in
        f.rest k h l ∙ (rw (lt-leb 13 (length (drop (13 * k) ns)) short))

    at : (k : ℕ) → k < 8 → get_or steps k step_past_end ≡ step_or_none (drop (13 * k) ns)
    at k l = go (cases_lt k i)
      where
        go : (k < i) ⊎ (i ≤ k) → get_or steps k step_past_end ≡ step_or_none (drop (13 * k) ns)
        go (inl h) = f.done k h
        go (inr h) = past k h l

-- what a chain with no fault keeps
pub lent-holds : (y : ℤ) (ns : List ℤ) → first (chain_tests (chain_from y ns)) ≡ 0 → (length ns / 13 ≤ 8) × Sound (steps_in ns)
lent-holds y ns = chain-holds (chain_from y ns)

-- ---- the test on the numbers, from the first step on
module _ (y : ℤ) (ns : List ℤ) (few : length ns / 13 ≤ 8) where
  pub good-begins : 0 < length ns / 13 → good_steps y (steps_in ns) ≡ (dated y (step_from ns).before && all_follow y (step_from ns).before (steps_in ns))
  unfolding good_steps
  good-begins h = subst⁻¹ (λ (ss : List Step). good_steps y ss ≡ (dated y (step_from ns).before && all_follow y (step_from ns).before ss)) (steps-from ns few 0 h) refl

  -- a turn: the step at index i, then the rest
  module _ (i : ℕ) (below : i < length ns / 13) (end : Realization) (b : Bool) (left : all_follow y end (drop i (steps_in ns)) ≡ b) where
    turn : (follows y end (step_from (drop (13 * i) ns)) && all_follow y (step_from (drop (13 * i) ns)).after (drop (i + 1) (steps_in ns))) ≡ b
    unfolding all_follow
    turn = ap (all_follow y end) (sym (steps-from ns few i below)) ∙ left

    pub ends_there : follows y end (step_from (drop (13 * i) ns)) ≡ false → false ≡ b
    ends_there e = rw e at turn

    pub goes_on : follows y end (step_from (drop (13 * i) ns)) ≡ true → all_follow y (step_from (drop (13 * i) ns)).after (drop (i + 1) (steps_in ns)) ≡ b
    goes_on e = rw e at turn

-- ---- where it passes, no test of the chain fails
module _ (y : ℤ) where
  -- what holds of where a step ends holds of where the next begins
  dated-same : (r t : Realization) → same_realization r t ≡ true → dated y r ≡ true → dated y t ≡ true
  unfolding dated realization_range agrees has_datum
  dated-same r t e d = let f = same-is r t e in rw (← f.0, ← f.1) d

  record Follows (r : Realization) (s : Step) : Type 0 where
    same : same_realization r s.before ≡ true
    after : dated y s.after ≡ true
    kind : good_kind y s.kind s.before s.after ≡ true

  follows-parts : (r : Realization) (s : Step) → follows y r s ≡ true → Follows r s
  unfolding follows
  follows-parts r s e = let f = all (same_realization r s.before) (dated y s.after) _ e in record { same = f.0; after = f.1; kind = f.2 }

  -- none of a step's own tests fails
  alone : (r : Realization) (s : Step) → dated y r ≡ true → Follows r s → first (step_tests y s) ≡ 0
  unfolding dated good_kind step_range has_step
  alone r s d f =
      let b = all (realization_range s.before) (agrees s.before) (has_datum y s.before) (dated-same r s.before f.same d) in
      let a = all (realization_range s.after) (agrees s.after) (has_datum y s.after) f.after in
      let k = all (kind_range s.kind) (kind_rule s.kind s.before s.after) (has_kind y s.kind) f.kind in
      rw (k.0, b.0, a.0, b.1, a.1, k.2, b.2, a.2, k.1)

  later : (s : Step) (ss : List Step) → dated y s.after ≡ true → all_follow y s.after ss ≡ true → first (later_tests y s ss) ≡ 0
  unfolding all_follow
  later s [] d e = refl
  later s (t ∷ ts) d e =
      let f = both (follows y s.after t) (all_follow y t.after ts) e in
      let g = follows-parts s.after t f.0 in
      on (step_tests y t) (join_test s t ∷ later_tests y t ts) (passed (step_tests y t) tt (alone s.after t d g))
      ∙ (rw g.same (later t ts g.after f.1))

  pub good-steps : (ss : List Step) → good_steps y ss ≡ true → first (steps_tests y ss) ≡ 0
  unfolding good_steps all_follow
  good-steps [] e = refl
  good-steps (s ∷ ss) e =
      let d = both (dated y s.before) (all_follow y s.before (s ∷ ss)) e in
      let f = both (follows y s.before s) (all_follow y s.after ss) d.1 in
      let g = follows-parts s.before s f.0 in
      on (step_tests y s) (later_tests y s ss) (passed (step_tests y s) tt (alone s.before s d.0 g)) ∙ later s ss g.after f.1

  pub good-chain : (ns : List ℤ) → profile_range y ≡ true → length ns / 13 ≤ 8 → good_steps y (steps_in ns) ≡ true → first (chain_tests (chain_from y ns)) ≡ 0
  good-chain ns p few g = rw (p, le-ltb 8 (length ns / 13) few) (good-steps (steps_in ns) g)
