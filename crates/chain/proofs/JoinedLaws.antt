-- Joined chains: what two that are accepted keep, the chain that they are joined to, and three chains bracketed either way. Assumes nothing.
use mathlib.Core.Path.{◌≡◌, sym, ◌∙◌, ap, ap₂}
use mathlib.Core.Bool.{true}
use mathlib.Core.List.{List, ◌++◌, append_assoc}
use Prim.Native.Nat.{ℕ, ◌+◌, ◌≤◌}
use native.Mathlib.Omega.{arith}
use borrow.Author.Tests.{le-ltb}
use lib.ListN.{length, take, length-append, length-take}
use lib.Seq.{take-append_seam}
use Rattle.refusal.specs.Order.{first}
use Rattle.refusal.proofs.Orders.{head-holds}
use Rattle.ranges.specs.Ranges.{profile_range}
use Rattle.chain.specs.declared.Step.{Step}
use Rattle.chain.specs.declared.Chain.{Chain}
use Rattle.chain.specs.Faults.{chain_tests, steps_of}
use Rattle.chain.specs.Join.{meet, together, joined_steps, joined_of}
use Rattle.chain.proofs.Accepted.{chain-passed}
use Rattle.chain.proofs.Joins.{Joinable}
use Rattle.chain.proofs.Meeting.{steps-joined, last_meets, first-meets, inner_meets, outer-meets}

-- ---- the joined chain: the steps of one and then those of the other, without fault
pub joined-steps : (c d : Chain) → steps_of (joined_of c d) ≡ steps_of c ++ steps_of d
unfolding joined_steps
joined-steps c d =
    ap₂ (λ (n : ℕ) (l : List Step). take n l) (sym (length-append (steps_of c) (steps_of d))) (sym (append_assoc (steps_of c) (steps_of d) _))
    ∙ take-append_seam (steps_of c ++ steps_of d) _

pub joined-good : (c d : Chain) → Joinable c d → first (chain_tests (joined_of c d)) ≡ 0
joined-good c d p =
    let m = head-holds (profile_range c.profile) _ _ p.good in
    let a = chain-passed c p.good in
    let b = rw (← p.like) at (chain-passed d p.other).1 in
    rw (m.0, le-ltb 8 (together c d) p.few, joined-steps c d) (steps-joined c.profile (steps_of c) (steps_of d) a.1 b p.meets)

-- how many there are
count : (c d : Chain) → length (steps_of (joined_of c d)) ≡ length (steps_of c) + length (steps_of d)
count c d = ap length (joined-steps c d) ∙ length-append (steps_of c) (steps_of d)

pub few-steps : (c : Chain) → first (chain_tests c) ≡ 0 → length (steps_of c) ≤ 8
few-steps c e = omega (arith, (chain-passed c e).0, length-take c.length c.steps)

-- ---- three chains: bracketed either way they have the same steps, and where they join one way they join the other
module _ (a b c : Chain) where
  abbrev ab : Chain
  ab = joined_of a b

  abbrev bc : Chain
  bc = joined_of b c

  pub one-chain : steps_of (joined_of a bc) ≡ steps_of (joined_of ab c)
  one-chain =
      joined-steps a bc ∙ ap (λ (l : List Step). steps_of a ++ l) (joined-steps b c) ∙ sym (append_assoc (steps_of a) (steps_of b) (steps_of c))
      ∙ ap (λ (l : List Step). l ++ steps_of c) (sym (joined-steps a b)) ∙ sym (joined-steps ab c)

  pub one-length : together a bc ≡ together ab c
  one-length = omega (arith, count a b, count b c)

  pub rightward : Joinable a b → Joinable ab c → Joinable b c × Joinable a bc
  rightward p q = (
    inner,
    record {
      good = p.good;
      other = joined-good b c inner;
      meets = ap (meet (steps_of a)) (joined-steps b c) ∙ first-meets (steps_of a) (steps_of b) (steps_of c) p.meets f;
      few = omega (arith, q.few, one-length);
      like = p.like;
    },
  )
    where
      f : meet (steps_of a ++ steps_of b) (steps_of c) ≡ true
      f = ap (λ (l : List Step). meet l (steps_of c)) (sym (joined-steps a b)) ∙ q.meets

      inner : Joinable b c
      inner = record {
        good = p.other;
        other = q.other;
        meets = last_meets (steps_of a) (steps_of b) (steps_of c) f;
        few = omega (arith, q.few, count a b);
        like = sym p.like ∙ q.like;
      }

  pub leftward : Joinable b c → Joinable a bc → Joinable a b × Joinable ab c
  leftward p q = (
    inner,
    record {
      good = joined-good a b inner;
      other = p.other;
      meets = ap (λ (l : List Step). meet l (steps_of c)) (joined-steps a b) ∙ outer-meets (steps_of a) (steps_of b) (steps_of c) p.meets f;
      few = omega (arith, q.few, one-length);
      like = q.like ∙ p.like;
    },
  )
    where
      f : meet (steps_of a) (steps_of b ++ steps_of c) ≡ true
      f = ap (meet (steps_of a)) (sym (joined-steps b c)) ∙ q.meets

      inner : Joinable a b
      inner = record {
        good = q.good;
        other = p.good;
        meets = inner_meets (steps_of a) (steps_of b) (steps_of c) f;
        few = omega (arith, q.few, count b c);
        like = q.like;
      }
