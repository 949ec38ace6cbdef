-- A point out of numbers, in the order that include/swivelcrane.h gives, and how long a conversion's rows of numbers are.
use Rattle.std.specs.Prelude.{ℕ, ◌%◌, Bool, ◌&&◌, List, [], ◌∷◌, eqb, ℤ}
use Rattle.chain.specs.declared.Point.{Point}
use Rattle.chain.specs.Numbers.{number, realization}

-- ---- a point: issue, order, datum, epoch, X, Y, Z. Its id stays with the caller
unfoldable pub point_from : List ℤ → Point
point_from ns = record {
  label = record { id = record { high = 0; low = 0 }; issue = number ns 0; order = number ns 1 };
  realization = realization (number ns 2) (number ns 3);
  position = record { x = number ns 4; y = number ns 5; z = number ns 6 };
}

unfoldable pub point_numbers : Point → List ℤ
point_numbers p =
    p.label.issue
    ∷ p.label.order
    ∷ p.realization.datum
    ∷ p.realization.epoch
    ∷ p.position.x
    ∷ p.position.y
    ∷ p.position.z
    ∷ []

-- whole steps, a whole point, and room for a point
unfoldable pub whole_steps : ℕ → ℕ → ℕ → Bool
whole_steps chain point out = eqb (chain % 13) 0 && eqb point 7 && eqb out 7
