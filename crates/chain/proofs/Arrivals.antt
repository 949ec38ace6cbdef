-- An answer, and where it says that a point arrives. Assumes nothing.
use mathlib.Core.Path.{◌≡◌, sym}
use Rattle.std.specs.Prelude.{Ok, Err}
use Rattle.chain.specs.declared.Point.{Point}
use Rattle.chain.specs.declared.Arrival.{Arrival}
use Rattle.chain.specs.Convert.{Answer, arrival_of, moved_to}

-- a conversion keeps the label
abbrev pub KeepsLabel : Point → Answer → Type 0
KeepsLabel p (Ok q) = q.label ≡ p.label
KeepsLabel p (Err n) = Unit {0}

pub arrived : (p : Point) (a : Answer) (r : Arrival) → KeepsLabel p a → Ok r ≡ arrival_of a → Ok (moved_to p r.realization r.position) ≡ a
arrived p (Ok q) r k e =
    let f : r ≡ record { realization = q.realization; position = q.position } = cc in
    rw (f, sym k)
arrived p (Err n) r k e = cc
