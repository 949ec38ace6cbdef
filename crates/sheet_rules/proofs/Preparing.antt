-- A good chain accepts each of its steps after those before it, so that it can be prepared step by step; one that is refused a step is bad. Assumes nothing.
use mathlib.Core.Path.{◌≡◌, refl, sym, ◌∙◌, ap}
use mathlib.Core.Bool.{true, false}
use mathlib.Core.List.{List, [], ◌∷◌, ◌++◌}
use Prim.Native.Nat.{ℕ, zero, suc, ◌+◌, ◌<◌, ◌≤◌}
use native.Mathlib.Nat as NatL
use native.Mathlib.Numerals.{add-one}
use native.Mathlib.Omega.{arith}
use borrow.Author.Tests.{le-ltb, lt-ltb, lt-leb, eq-eqb, ne_eqb}
use lib.Dec.{ltb}
use lib.IntN.{ℤ, pos}
use lib.ListN.{length, take, get_or, replicate}
use lib.Seq.{take-suc, take-length, length-take-le}
use Rattle.std.specs.Prelude.{Result, Ok, Err, is_ok, IsErr}
use Rattle.refusal.specs.declared.Refusal.{Refusal}
use Rattle.refusal.specs.Numbers as refusal
use Rattle.refusal.specs.Order.{first}
use Rattle.ranges.specs.Ranges.{profile_range}
use Rattle.refusal.proofs.Orders.{head-holds, step-passed}
use Rattle.chain.specs.declared.Step.{Step}
use Rattle.chain.specs.declared.Chain.{Chain}
use Rattle.chain.specs.Faults.{profile_fault, steps_tests, chain_tests, steps_of}
use Rattle.chain.specs.Prepared as prepared
use Rattle.chain.specs.Prepared.{extend_fault, extended_by, chain_of}
use Rattle.chain.proofs.Keeping.{holds-none, steps-at, extend-joins, extend-holds}
use Rattle.sheet_rules.specs.OneLine.{PreparesChain}

-- ---- the steps of a chain, one by one
-- the first n of a list, parted at an index below n
parted : (l : List Step) (n i : ℕ) (d : Step) → i < n → i < length l → (b : List Step) × (take n l ≡ take i l ++ (get_or l i d ∷ b))
parted [] n i d h k = absurd (NatL.not-suc-le-zero k)
parted (x ∷ xs) zero i d h k = absurd (NatL.not-suc-le-zero h)
parted (x ∷ xs) (suc n) zero d h k = (take n xs, refl)
parted (x ∷ xs) (suc n) (suc i) d h k = let p = parted xs n i d (NatL.le_of_suc-le-suc h) (NatL.le_of_suc-le-suc k) in (p.0, ap (λ (r : List Step). x ∷ r) p.1)

-- ---- a chain's profile, its length and its steps
steps-good : (c : Chain) → first (chain_tests c) ≡ 0 → first (steps_tests c.profile (steps_of c)) ≡ 0
steps-good c e =
    let p = head-holds (profile_range c.profile) _ _ e in
    (step-passed (ltb 8 c.length) refusal.ninth (first (steps_tests c.profile (steps_of c))) tt p.1).1

good-steps : (c : Chain) → profile_range c.profile ≡ true → c.length ≤ 8 → first (steps_tests c.profile (steps_of c)) ≡ 0 → first (chain_tests c) ≡ 0
good-steps c p short e = rw (p, le-ltb 8 c.length short) e

-- a bad chain
bad : (c : Chain) (m : List ℤ) → (first (chain_tests c) ≡ 0 → ⊥) → PreparesChain c m false
bad c m n = record { told = sym (ne_eqb (first (chain_tests c)) 0 n); holds = λ q. absurd (let z : ◌≡◌ {A = ℕ} 0 1 = cc in omega arith) }

-- ---- the loop
module _ (c : Chain) (short : c.length ≤ 8) (room : length c.steps ≡ 8) (l : List ℤ) (i : ℕ) (d : Step) (below : i < c.length) (held : prepared.Holds c.profile l (take i c.steps)) where
  abbrev here : Step
  here = get_or c.steps i d

  -- a good chain's next step is accepted
  accepted : first (chain_tests c) ≡ 0 → extend_fault c.profile l here ≡ 0
  accepted e =
      let p = parted c.steps c.length i d below (omega arith) in
      let f = steps-at c.profile (take i c.steps) here p.0 (sym (ap (λ (ss : List Step). first (steps_tests c.profile ss)) p.1) ∙ steps-good c e) in
      let n : length (take i c.steps) ≡ i = length-take-le i c.steps (omega arith) in
      extend-joins c.profile l (take i c.steps) here held f.0 ∙ rw (f.1, n, lt-leb 8 i (omega arith))

  pub refused-step : (n : ℕ) → n ≡ extend_fault c.profile l here → (n ≡ 0 → ⊥) → (m : List ℤ) → PreparesChain c m false
  refused-step n e z m = bad c m (λ q. z (e ∙ accepted q))

  pub next-step : extend_fault c.profile l here ≡ 0 → (m : List ℤ) → m ≡ extended_by c.profile l here → prepared.Holds c.profile m (take (i + 1) c.steps)
  next-step z m e = rw (e, add-one, take-suc c.steps i d (omega arith)) (extend-holds c.profile l (take i c.steps) here held z)

-- of no profile
pub profile-known : (y : ℤ) → profile_fault y ≡ 0 → profile_range y ≡ true
unfolding profile_fault
profile-known y e = (head-holds (profile_range y) _ _ e).0

known-profile : (y : ℤ) → profile_range y ≡ true → profile_fault y ≡ 0
unfolding profile_fault
known-profile y e = rw e

pub no-profile : (c : Chain) → (profile_fault c.profile ≡ 0 → ⊥) → (m : List ℤ) → PreparesChain c m false
no-profile c h m = bad c m (λ e. h (known-profile c.profile (head-holds (profile_range c.profile) _ _ e).0))

-- what is told of a bad chain
pub told-bad : (c : Chain) (m : List ℤ) (r : Result (Unit {0}) Refusal) → IsErr r → PreparesChain c m false → PreparesChain c m (is_ok r)
told-bad c m (Ok x) h p = absurd (let z : ◌≡◌ {A = ℕ} 0 1 = cc in omega arith)
told-bad c m (Err e) h p = p

-- too long
pub long-chain : (c : Chain) → profile_range c.profile ≡ true → 8 < c.length → (m : List ℤ) → PreparesChain c m false
long-chain c p h m = bad c m (λ e. let z : ◌≡◌ {A = ℕ} 0 1 = omega (arith, rw (p, lt-ltb 8 c.length h) at e) in absurd (omega arith))

-- nothing prepared yet
pub none-prepared : (y : ℤ) (ss : List Step) (l : List ℤ) → profile_range y ≡ true → l ≡ replicate 72 (pos 0) → prepared.Holds y l (take 0 ss)
none-prepared y ss l p e = rw e (holds-none y (replicate 72 (pos 0)) p refl refl)

-- and all of it
pub all-prepared : (c : Chain) → c.length ≤ 8 → (l : List ℤ) → prepared.Holds c.profile l (steps_of c) → PreparesChain c l true
all-prepared c short l held =
    let g = rw (take-length (steps_of c)) at held.sound in
    let p = head-holds (profile_range c.profile) _ _ g in
    let f = step-passed (ltb 8 (length (steps_of c))) refusal.ninth (first (steps_tests c.profile (steps_of c))) tt p.1 in
    record { told = sym (eq-eqb (first (chain_tests c)) 0 (good-steps c p.0 short f.1)); holds = λ _. held }
