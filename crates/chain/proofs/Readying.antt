-- A chain made ready holds its steps, and a point by it is the single conversion by the chain. Assumes nothing.
use mathlib.Core.Path.{◌≡◌, refl, sym, ◌∙◌, ap, ap₂, subst}
use mathlib.Core.List.{List, [], ◌∷◌, ◌++◌, reverse, append-nil, append_assoc}
use Prim.Native.Nat.{ℕ, zero, suc, ◌+◌, ◌<◌, ◌≤◌}
use native.Mathlib.Numerals.{add-one}
use native.Mathlib.Omega.{arith}
use borrow.Author.Tests.{lt-leb}
use lib.IntN.{ℤ}
use lib.ListN.{length, get_or, take, drop, length-take, length-append}
use lib.Seq.{take-length, take-suc}
use Rattle.std.proofs.lemmas.List.{take-append-drop, take-take}
use Rattle.refusal.specs.Order.{first, unless}
use Rattle.refusal.proofs.Orders.{first-append, head-holds, passed, stop, on, unless-some, unless-none}
use Rattle.ranges.specs.Ranges.{profile_range}
use Rattle.chain.specs.declared.Realization.{Realization}
use Rattle.chain.specs.declared.Point.{Point}
use Rattle.chain.specs.declared.Step.{Step}
use Rattle.chain.specs.declared.Chain.{Chain}
use Rattle.chain.specs.declared.ReadyChain.{ReadyChain}
use Rattle.chain.specs.Convert.{Answer}
use Rattle.std.specs.Prelude.{Ok, Err}
use Rattle.chain.specs.declared.Direction.{Direction}
use Rattle.chain.specs.declared.Direction.TheVariants.{Forward, Inverse}
use Rattle.chain.specs.Faults.{step_fault, point_fault, point_tests, step_tests, steps_tests, chain_tests, steps_of}
use Rattle.chain.specs.Convert.{Walk, walk, forward_step, inverse_step, answer_of, start_of, end_of, more_tests, realization_and_area_tests, convert, forward_of, inverse_of}
use Rattle.chain.specs.Prepared.{extended_by, extend_fault, chain_of, Holds}
use Rattle.chain.specs.PointRow.{convert_of, no_numbers, extended_all, ready_chain_of, convert_prepared, convert_ready}
use Rattle.chain.proofs.Accepted.{numbered-steps, chain-passed, entry, by_chain, by-point}
use Rattle.chain.proofs.AtIndex.{step_past_end, from}
use Rattle.chain.proofs.Keeping.{steps-at, extend-refuses, extended-holds, extend-holds, holds-none, prepared-forward, prepared-inverse}

-- ---- of steps that pass, each passes after those before it
module _ (y : ℤ) (t : Step) (ts : List Step) where
  next-passes : (ss : List Step) → first (steps_tests y (ss ++ (t ∷ ts))) ≡ 0 → length (ss ++ (t ∷ ts)) ≤ 8 → first (step_tests y t ++ more_tests ss t) ≡ 0
  unfolding step_fault
  next-passes ss e k =
      let n = steps-at y ss t ts e in
      let few = lt-leb 8 (length ss) (omega (arith, length-append ss (t ∷ ts))) in
      first-append (step_tests y t) (more_tests ss t) tt ∙ rw (n.0, n.1, few)

-- ---- so all of them are held
pub holds-all : (y : ℤ) (l : List ℤ) (ss ts : List Step) → Holds y l ss → first (steps_tests y (ss ++ ts)) ≡ 0 → length (ss ++ ts) ≤ 8 → Holds y (extended_all y l ts) (ss ++ ts)
unfolding extended_all
holds-all y l ss [] h e k = rw (append-nil ss) h
holds-all y l ss (t ∷ ts) h e k =
    let g : (ss ++ (t ∷ [])) ++ ts ≡ ss ++ (t ∷ ts) = append_assoc ss (t ∷ []) ts in
    subst (λ (us : List Step). Holds y (extended_all y (extended_by y l t) ts) us) g
    (holds-all y (extended_by y l t) (ss ++ (t ∷ [])) ts (extended-holds y l ss t h (next-passes y t ts ss e k)) (ap (λ (us : List Step). first (steps_tests y us)) g ∙ e) (rw g k))

pub ready-holds : (c : Chain) → first (chain_tests c) ≡ 0 → Holds c.profile (extended_all c.profile no_numbers (steps_of c)) (steps_of c)
ready-holds c e =
    let n = chain-passed c e in
    let m = head-holds (profile_range c.profile) _ _ e in
    holds-all c.profile no_numbers [] (steps_of c) (holds-none c.profile no_numbers m.0 refl refl) n.1 (omega (arith, length-take c.length c.steps, n.0))

-- ---- a chain's conversions are those of its steps
module _ (c : Chain) (good : first (chain_tests c) ≡ 0) (p : Point) (wanted reached : Realization) (w : Walk) where
  silent : convert c p wanted reached w ≡ unless (entry c.profile p wanted) Err (answer_of p reached w)
  unfolding convert
  silent = ap (λ (n : ℕ). unless n Err (answer_of p reached w)) (on (chain_tests c) (point_tests c.profile p ++ realization_and_area_tests p wanted) (passed (chain_tests c) (numbered-steps c.profile (steps_of c)) good))

module _ (c : Chain) (good : first (chain_tests c) ≡ 0) (p : Point) where
  abbrev steps : Chain
  steps = chain_of c.profile (steps_of c)

  along : List Step → Answer
  along ss = unless (entry c.profile p (start_of p.realization ss)) Err (answer_of p (end_of p.realization ss) (walk forward_step ss p.position))

  pub by-steps-forward : forward_of steps p ≡ forward_of c p
  unfolding forward_of along
  by-steps-forward = silent steps (ready-holds c good).sound p _ _ _ ∙ ap along (take-length (steps_of c)) ∙ sym (silent c good p _ _ _)

  back : List Step → Answer
  back ss = unless (entry c.profile p (end_of p.realization ss)) Err (answer_of p (start_of p.realization ss) (walk inverse_step (reverse ss) p.position))

  by-steps-inverse : inverse_of steps p ≡ inverse_of c p
  unfolding inverse_of back
  by-steps-inverse = silent steps (ready-holds c good).sound p _ _ _ ∙ ap back (take-length (steps_of c)) ∙ sym (silent c good p _ _ _)

-- a bad chain converts no point
pub converted-good : (c : Chain) (p q : Point) → forward_of c p ≡ Ok q → first (chain_tests c) ≡ 0
unfolding forward_of
converted-good c p q e = go (first (chain_tests c)) refl
  where
    go : (n : ℕ) → first (chain_tests c) ≡ n → first (chain_tests c) ≡ 0
    go zero f = f
    go (suc n) f = absurd (let r : Err (first (chain_tests c)) ≡ Ok q = by_chain c p _ _ _ (λ z. let y : suc n ≡ 0 = sym f ∙ z in omega arith) ∙ e in let y : ◌≡◌ {A = ℕ} 0 1 = cc in omega arith)

-- ---- the three ways in which it answers
module _ (c : Chain) (p : Point) where
  chain-decides : (first (chain_tests c) ≡ 0 → ⊥) → (d : Direction) → Err (first (chain_tests c)) ≡ convert_of c d p
  unfolding convert_of forward_of inverse_of
  chain-decides h Forward = by_chain c p _ _ _ h
  chain-decides h Inverse = by_chain c p _ _ _ h

  module _ (good : first (chain_tests c) ≡ 0) where
    point-first : (point_fault c.profile p ≡ 0 → ⊥) → (wanted : Realization) → point_fault c.profile p ≡ entry c.profile p wanted
    unfolding point_fault
    point-first h wanted = sym (stop (point_tests c.profile p) (realization_and_area_tests p wanted) h)

    refused-point : (point_fault c.profile p ≡ 0 → ⊥) → (wanted reached : Realization) (w : Walk) → Err (point_fault c.profile p) ≡ convert c p wanted reached w
    refused-point h wanted reached w = let e = point-first h wanted in ap Err e ∙ by-point c p wanted reached w good (λ f. h (e ∙ f))

    point-decides : (point_fault c.profile p ≡ 0 → ⊥) → (d : Direction) → Err (point_fault c.profile p) ≡ convert_of c d p
    unfolding convert_of forward_of inverse_of
    point-decides h Forward = refused-point h _ _ _
    point-decides h Inverse = refused-point h _ _ _

    steps-decide : point_fault c.profile p ≡ 0 → (d : Direction) → convert_prepared d (extended_all c.profile no_numbers (steps_of c)) p ≡ convert_of c d p
    unfolding convert_of
    steps-decide f Forward = prepared-forward c.profile _ (steps_of c) (ready-holds c good) p f ∙ by-steps-forward c good p
    steps-decide f Inverse = prepared-inverse c.profile _ (steps_of c) (ready-holds c good) p f ∙ by-steps-inverse c good p

-- a number is 0 or not
either : {A : Type 0} (n : ℕ) → (n ≡ 0 → A) → ((n ≡ 0 → ⊥) → A) → A
either zero f g = f refl
either (suc n) f g = g (λ e. absurd (omega arith))

-- a point by a good chain's numbers is the single conversion by the chain
pub prepared-converts : (c : Chain) → first (chain_tests c) ≡ 0 → (d : Direction) (p : Point) → unless (point_fault c.profile p) Err (convert_prepared d (extended_all c.profile no_numbers (steps_of c)) p) ≡ convert_of c d p
prepared-converts c good d p =
    either (point_fault c.profile p)
    (λ f. unless-none _ Err _ f ∙ steps-decide c p good f d)
    (λ h. unless-some _ Err _ h ∙ point-decides c p good h d)

-- and so by a chain that is ready, for every chain and every point
pub ready-converts : (c : Chain) (d : Direction) (p : Point) → convert_ready (ready_chain_of c) d p ≡ convert_of c d p
unfolding convert_ready ready_chain_of
ready-converts c d p =
    either (first (chain_tests c))
    (λ good. unless-none _ Err _ good
    ∙ ap (λ (l : List ℤ). unless (point_fault c.profile p) Err (convert_prepared d l p)) (unless-none _ (λ (n : ℕ). no_numbers) _ good)
    ∙ prepared-converts c good d p)
    (λ h. unless-some _ Err _ h ∙ chain-decides c p h d)

-- ---- what the code makes ready
pub ready-fault : (c : Chain) {w : ReadyChain} → w ≡ ready_chain_of c → w.refusal ≡ first (chain_tests c)
unfolding ready_chain_of
ready-fault c e = ap (λ (w : ReadyChain). w.refusal) e

-- an answer that a fault may refuse: there, or refused
pub unless-there : {A : Type 0} (n : ℕ) (a b : A) → Ok a ≡ unless n Err (Ok b) → (n ≡ 0) × (a ≡ b)
unless-there zero a b e = (refl, cc)
unless-there (suc n) a b e = (cc, cc)

pub unless-refused : {A : Type 0} (n m : ℕ) (b : A) → Err m ≡ unless n Err (Ok b) → (m ≡ n) × (n ≡ 0 → ⊥)
unless-refused zero m b e = (cc, cc)
unless-refused (suc n) m b e = (cc, λ z. absurd (omega arith))

-- the steps of a chain, prepared
abbrev pub prepared : Chain → List ℤ
prepared c = extended_all c.profile no_numbers (steps_of c)

-- what preparing leaves, beside its refusal's number, is the chain made ready
pub ready-made : (c : Chain) {n : ℕ} {y : ℤ} {l : List ℤ} → n ≡ first (chain_tests c) → y ≡ c.profile → l ≡ unless (first (chain_tests c)) (λ n. no_numbers) (prepared c) →
    record { refusal = n; profile = y; numbers = l } ≡ ready_chain_of c
unfolding ready_chain_of
ready-made c e f g = rw (e, f, g)

-- and so is what is made of an answer that has the prepared steps, or the refusal
pub ready_refused : (c : Chain) {n : ℕ} {y : ℤ} → Err n ≡ unless (first (chain_tests c)) Err (Ok (prepared c)) → y ≡ c.profile → record { refusal = n; profile = y; numbers = no_numbers } ≡ ready_chain_of c
ready_refused c {n} e f =
    let u = unless-refused (first (chain_tests c)) n _ e in
    ready-made c u.0 f (sym (unless-some (first (chain_tests c)) (λ (n : ℕ). no_numbers) (prepared c) u.1))

pub ready-steps : (c : Chain) {y : ℤ} {l : List ℤ} → Ok l ≡ unless (first (chain_tests c)) Err (Ok (prepared c)) → y ≡ c.profile → record { refusal = 0; profile = y; numbers = l } ≡ ready_chain_of c
ready-steps c {y} {l} e f =
    let u = unless-there (first (chain_tests c)) l _ e in
    ready-made c (sym u.0) f (u.1 ∙ sym (unless-none (first (chain_tests c)) (λ (n : ℕ). no_numbers) (prepared c) u.0))

-- ---- the steps of a good chain, one after the other: none is refused
module _ (c : Chain) (good : first (chain_tests c) ≡ 0) (i : ℕ) (below : i < c.length) (inside : i < length c.steps) where
  abbrev here : Step
  here = get_or c.steps i step_past_end

  abbrev rest : List Step
  rest = drop (i + 1) (steps_of c)

  parted : steps_of c ≡ take i c.steps ++ (here ∷ rest)
  parted =
      sym (take-append-drop i (steps_of c))
      ∙ ap₂ ◌++◌ (take-take i c.length c.steps (omega arith)) (from c.steps c.length i below inside)

  -- what they give together stays
  pub put-next : (l m : List ℤ) → m ≡ extended_by c.profile l here → extended_all c.profile m rest ≡ extended_all c.profile l (drop i (steps_of c))
  unfolding extended_all
  put-next l m e = rw (e, from c.steps c.length i below inside)

  module _ (l : List ℤ) (held : Holds c.profile l (take i c.steps)) where
    passes : first (step_tests c.profile here ++ more_tests (take i c.steps) here) ≡ 0
    passes =
        let n = chain-passed c good in
        next-passes c.profile here rest (take i c.steps) (ap (λ (ss : List Step). first (steps_tests c.profile ss)) (sym parted) ∙ n.1)
        (rw parted at (let k : length (steps_of c) ≤ 8 = omega (arith, length-take c.length c.steps, n.0) in k))

    pub accepted-next : extend_fault c.profile l here ≡ 0
    accepted-next = extend-refuses c.profile l (take i c.steps) here held ∙ passes

    pub holds-next : (m : List ℤ) → m ≡ extended_by c.profile l here → Holds c.profile m (take (i + 1) c.steps)
    holds-next m e = rw (e, add-one, take-suc c.steps i step_past_end inside) (extend-holds c.profile l (take i c.steps) here held accepted-next)
