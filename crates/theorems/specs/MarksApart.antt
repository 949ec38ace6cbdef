-- Two marks never become one: two points more than n units apart on some axis, where the chain has n Bursa-Wolf and frame steps, are not brought to one
-- position, neither forward nor inverse.
use Rattle.std.specs.Prelude.{◌≡◌, ℕ, ◌<◌, ◌≤◌, nat_abs, ◌-ℤ◌, Ok}
use Rattle.chain.specs.declared.Point.{Point}
use Rattle.chain.specs.declared.Chain.{Chain}
use Rattle.chain.specs.Faults.{steps_of}
use Rattle.chain.specs.Axes.{Axis, coordinate}
use Rattle.chain.specs.Convert.{forward_of, inverse_of}
use Rattle.theorems.specs.RoundTrip.{inexact_steps}

-- p and q lie more than n units apart on some axis
pub record Beyond (n : ℕ) (p q : Point) : Type 0 where
  pub axis : Axis
  pub far : n < nat_abs (coordinate axis p.position -ℤ coordinate axis q.position)

-- any chain, any two points p and q, and what each is converted to; nothing is asked of ids, issues, datums and epochs. The steps counted are those within
-- the chain's length
abbrev pub MarksApart : Type 0
MarksApart =
    (c : Chain) (p q p' q' : Point) → Beyond (inexact_steps (steps_of c)) p q →
    (forward_of c p ≡ Ok p' → forward_of c q ≡ Ok q' → p'.position ≡ q'.position → ⊥)
    × (inverse_of c p ≡ Ok p' → inverse_of c q ≡ Ok q' → p'.position ≡ q'.position → ⊥)
