-- Two chains joined: what decides, and how many steps there are. Assumes nothing.
use mathlib.Core.Path.{◌≡◌, refl, sym, ◌∙◌}
use mathlib.Core.Bool.{true}
use mathlib.Core.List.{List, [], ◌∷◌, ◌++◌}
use Prim.Native.Nat.{ℕ, zero, suc, ◌+◌, ◌≤◌}
use native.Mathlib.Omega.{arith}
use borrow.Author.Tests.{ltb-false, le-ltb}
use lib.Dec.{T, ltb}
use lib.ListN.{length, length-take}
use Rattle.std.specs.Prelude.{Ok, Err}
use Rattle.refusal.specs.Order.{first, unless}
use Rattle.refusal.proofs.Orders.{numbered, passed, stop, on, first-append, both-pass, head-holds, step-passed, unless-some, unless-none}
use Rattle.ranges.specs.Ranges.{equal}
use Rattle.ranges.proofs.Ranges.{equal_is, equal-self}
use Rattle.chain.specs.declared.Realization.{Realization}
use Rattle.chain.specs.declared.Step.{Step}
use Rattle.chain.specs.declared.Chain.{Chain}
use Rattle.chain.specs.Faults.{same_realization, chain_tests, steps_of}
use Rattle.chain.specs.Convert.{start_of, end_of}
use Rattle.chain.specs.Join.{meet, together, pair_tests, join_tests, joined_of, join_fault, join_of}
use Rattle.chain.proofs.Within.{same_self}
use Rattle.chain.proofs.Accepted.{numbered-steps, chain-passed}

-- ---- whether they meet, as the code finds it
pub met : (z : Realization) (ss ts : List Step) → same_realization (end_of (start_of z ts) ss) (start_of (end_of (start_of z ts) ss) ts) ≡ meet ss ts
unfolding start_of
met z ss [] = same_self (end_of z ss)
met z ss (t ∷ ts) = refl

-- ---- what decides
unless-ok : (n : ℕ) (x y : Chain) → unless n (λ (k : ℕ). Err k) (Ok x) ≡ Ok y → (n ≡ 0) × (x ≡ y)
unless-ok zero x y e = (refl, cc)
unless-ok (suc n) x y e = absurd cc

-- two chains without fault that meet, of at most eight steps together and of one profile
pub record Joinable (c d : Chain) : Type 0 where
  pub good : first (chain_tests c) ≡ 0
  pub other : first (chain_tests d) ≡ 0
  pub meets : meet (steps_of c) (steps_of d) ≡ true
  pub few : together c d ≤ 8
  pub like : c.profile ≡ d.profile

module _ (c d : Chain) where
  all_first : T (numbered (chain_tests c))
  all_first = numbered-steps c.profile (steps_of c)

  all-second : T (numbered (chain_tests d))
  all-second = numbered-steps d.profile (steps_of d)

  pub by_first : (first (chain_tests c) ≡ 0 → ⊥) → first (chain_tests c) ≡ join_fault c d
  unfolding join_fault
  by_first h = sym (stop (chain_tests c) _ h)

  module _ (good : first (chain_tests c) ≡ 0) where
    past_first : first (join_tests c d) ≡ first (chain_tests d ++ pair_tests c d)
    past_first = on (chain_tests c) _ (passed (chain_tests c) all_first good)

    pub by-second : (first (chain_tests d) ≡ 0 → ⊥) → first (chain_tests d) ≡ join_fault c d
    unfolding join_fault
    by-second h = sym (past_first ∙ stop (chain_tests d) _ h)

    pub by-pair : first (chain_tests d) ≡ 0 → first (pair_tests c d) ≡ join_fault c d
    unfolding join_fault
    by-pair other = sym (past_first ∙ on (chain_tests d) _ (passed (chain_tests d) all-second other))

  -- what two chains keep that are not refused
  pub joinable : join_fault c d ≡ 0 → Joinable c d
  unfolding join_fault
  joinable e =
      let p = both-pass (chain_tests c) _ all_first e in
      let q = both-pass (chain_tests d) _ all-second p.1 in
      let m = head-holds (meet (steps_of c) (steps_of d)) _ _ q.1 in
      let n = step-passed (ltb 8 (together c d)) _ _ tt m.1 in
      record {
        good = p.0;
        other = q.0;
        meets = m.0;
        few = ltb-false 8 (together c d) n.0;
        like = equal_is c.profile d.profile (head-holds (equal c.profile d.profile) _ 0 n.1).0;
      }

  -- and two that keep it are not refused
  unrefused : Joinable c d → join_fault c d ≡ 0
  unfolding join_fault
  unrefused p =
      first-append (chain_tests c) _ all_first
      ∙ rw p.good (first-append (chain_tests d) _ all-second ∙ rw (p.other, p.meets, le-ltb 8 (together c d) p.few, ← p.like, equal-self c.profile))

  pub refused-is : (join_fault c d ≡ 0 → ⊥) → join_of c d ≡ Err (join_fault c d)
  unfolding join_of
  refused-is h = unless-some (join_fault c d) Err (Ok (joined_of c d)) h

  pub accepted-is : join_fault c d ≡ 0 → join_of c d ≡ Ok (joined_of c d)
  unfolding join_of
  accepted-is e = unless-none (join_fault c d) Err (Ok (joined_of c d)) e

  pub accepts : Joinable c d → join_of c d ≡ Ok (joined_of c d)
  accepts p = accepted-is (unrefused p)

  -- where a chain is given there is no fault, and it is that of both chains' steps
  module _ (j : Chain) (e : join_of c d ≡ Ok j) where
    pub unfaulted : (join_fault c d ≡ 0) × (joined_of c d ≡ j)
    unfolding join_of
    unfaulted = unless-ok (join_fault c d) (joined_of c d) j e

    pub accepted : Joinable c d
    accepted = joinable unfaulted.0

    pub is-joined : joined_of c d ≡ j
    is-joined = unfaulted.1

  -- each has at most eight steps, and so have the two
  pub accepted-few : join_fault c d ≡ 0 → (c.length ≤ 8) × (d.length ≤ 8) × (together c d ≤ 8)
  accepted-few e = let p = joinable e in ((chain-passed c p.good).0, (chain-passed d p.other).0, p.few)

  pub accepted-lengths : (j : Chain) → join_of c d ≡ Ok j → (c.length ≤ 8) × (d.length ≤ 8) × (together c d ≤ 8)
  accepted-lengths j e = accepted-few (unfaulted j e).0

-- ---- how many steps there are
pub within : (c : Chain) → length c.steps ≡ 8 → c.length ≤ 8 → length (steps_of c) ≡ c.length
within c l h = omega (arith, length-take c.length c.steps)

-- two chains that are accepted have at most eight steps by their lengths
pub few-together : (c d : Chain) → length c.steps ≡ 8 → length d.steps ≡ 8 → join_fault c d ≡ 0 → c.length + d.length ≤ 8
few-together c d lc ld e =
    let a = accepted-few c d e in
    omega (arith, a.2, within c lc a.0, within d ld a.1)
