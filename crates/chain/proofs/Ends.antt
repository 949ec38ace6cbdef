-- Where a chain starts and ends, and what a conversion in each direction that was not refused went by. Assumes nothing.
use mathlib.Core.Path.{◌≡◌, refl, sym, ap}
use mathlib.Core.Bool.{true}
use mathlib.Core.List.{List, [], ◌∷◌, reverse}
use Rattle.chain.specs.declared.Position.{Position}
use Rattle.chain.specs.declared.Realization.{Realization}
use Rattle.chain.specs.declared.Kind.{Kind}
use Rattle.chain.specs.declared.Point.{Point}
use Rattle.chain.specs.declared.Step.{Step}
use Rattle.chain.specs.declared.Chain.{Chain}
use Rattle.std.specs.Prelude.{Ok}
use Rattle.chain.specs.Faults.{same_realization, steps_of}
use Rattle.chain.specs.Case as cases
use Rattle.chain.specs.Case.{answer}
use Rattle.chain.specs.Convert.{walk, forward_step, inverse_step, start_of, end_of, forward_of, inverse_of}
use Rattle.chain.proofs.Within.{same-is}
use Rattle.chain.proofs.Accepted.{Conversion, converted}

-- ---- datum and epoch: from a chain's start to its end and back, and from its end to its start and there again
module _ (r e : Realization) where
  pub start-home :
      (ss : List Step) → same_realization r (start_of r ss) ≡ true → e ≡ end_of r ss → ((start_of e ss).datum ≡ r.datum) × ((start_of e ss).epoch ≡ r.epoch)
  unfolding start_of end_of
  start-home [] h i = (ap (λ (t : Realization). t.datum) i, ap (λ (t : Realization). t.epoch) i)
  start-home (s ∷ ss) h i = let f = same-is r s.before h in (sym f.0, sym f.1)

  pub end-home :
      (ss : List Step) → same_realization r (end_of r ss) ≡ true → e ≡ start_of r ss → ((end_of e ss).datum ≡ r.datum) × ((end_of e ss).epoch ≡ r.epoch)
  unfolding start_of end_of
  end-home [] h i = (ap (λ (t : Realization). t.datum) i, ap (λ (t : Realization). t.epoch) i)
  end-home (s ∷ ss) h i = let f = same-is r (end_of s.after ss) h in (sym f.0, sym f.1)

-- ---- a worked case forward is a conversion
pub forward-case : (k : Kind) (r a : Realization) (p q : Position) → answer (cases.case cases.forward k r a p q) ≡ forward_of (cases.chain k r a) (cases.point r p)
unfolding answer
forward-case k r a p q = refl

-- ---- what a conversion that was not refused went by
module _ (c : Chain) (p q : Point) where
  pub forward-went :
      forward_of c p ≡ Ok q →
      Conversion c p (start_of p.realization (steps_of c)) (end_of p.realization (steps_of c)) (walk forward_step (steps_of c) p.position) q
  unfolding forward_of
  forward-went e = converted c p _ _ _ q e

  pub inverse-went :
      inverse_of c p ≡ Ok q →
      Conversion c p (end_of p.realization (steps_of c)) (start_of p.realization (steps_of c)) (walk inverse_step (reverse (steps_of c)) p.position) q
  unfolding inverse_of
  inverse-went e = converted c p _ _ _ q e
