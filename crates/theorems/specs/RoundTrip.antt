-- Demand 3, the whole claim: convert a point by a chain and hand what came out, unchanged, to the other conversion by the same chain. If neither is
-- refused, the point handed in has come back.
use Rattle.std.specs.Prelude.{◌≡◌, List, [], ◌∷◌, ℕ, ◌+◌, ◌≤◌, nat_abs, ◌-ℤ◌, Ok}
use Rattle.chain.specs.declared.Point.{Point}
use Rattle.chain.specs.declared.Kind.{Kind}
use Rattle.chain.specs.declared.Kind.TheVariants.{Shift, Velocity, BursaWolf, Frame}
use Rattle.chain.specs.declared.Step.{Step}
use Rattle.chain.specs.declared.Chain.{Chain}
use Rattle.chain.specs.Faults.{steps_of}
use Rattle.chain.specs.Convert.{forward_of, inverse_of}

-- how many of the steps are Bursa-Wolf or frame steps: shifts and velocities add nothing
abbrev pub inexact : Kind → ℕ
inexact (Shift t) = 0
inexact (Velocity t) = 0
inexact (BursaWolf t) = 1
inexact Frame = 1

abbrev pub inexact_steps : List Step → ℕ
inexact_steps [] = 0
inexact_steps (s ∷ ss) = inexact s.kind + inexact_steps ss

-- r is p come back: id, issue, order, datum and epoch equal, and no coordinate more than n units off
pub record Returned (n : ℕ) (p r : Point) : Type 0 where
  pub id : r.label.id ≡ p.label.id
  pub issue : r.label.issue ≡ p.label.issue
  pub order : r.label.order ≡ p.label.order
  pub datum : r.realization.datum ≡ p.realization.datum
  pub epoch : r.realization.epoch ≡ p.realization.epoch
  pub x : nat_abs (r.position.x -ℤ p.position.x) ≤ n
  pub y : nat_abs (r.position.y -ℤ p.position.y) ≤ n
  pub z : nat_abs (r.position.z -ℤ p.position.z) ≤ n

-- any chain, any point p, the answer q of the first conversion and the answer r of the second: forward then inverse, and inverse then forward. The steps
-- counted are those within the chain's length
abbrev pub ThereAndBack : Type 0
ThereAndBack = (c : Chain) (p q r : Point) → forward_of c p ≡ Ok q → inverse_of c q ≡ Ok r → Returned (inexact_steps (steps_of c)) p r

abbrev pub BackAndThere : Type 0
BackAndThere = (c : Chain) (p q r : Point) → inverse_of c p ≡ Ok q → forward_of c q ≡ Ok r → Returned (inexact_steps (steps_of c)) p r

-- within 0 units is equal: a chain of shifts and velocities alone, or an empty one, gives back exactly the point handed in
abbrev pub Exactly : Type 0
Exactly = (p r : Point) → Returned 0 p r → r ≡ p

pub record RoundTrip : Type 0 where
  pub forth : ThereAndBack
  pub back : BackAndThere
  pub exact : Exactly
